mod OneMore
mod Split
mod Parts
mod HeapTypes
