-- Which two causes of a refusal may both stand.
use Rattle.std.specs.Prelude.{◌≡◌, ◌⊎◌}
use Rattle.wasm_spec.specs.declared.operators.What.TheVariants.{InterfaceTypes}
use Rattle.plan_text.specs.declared.error.TranslateError.{TranslateError}
use Rattle.plan_text.specs.declared.error.TranslateError.TheVariants.{Unsupported, TooLarge, OffsetOverflow}

-- Sizes: the runtime data are too large, and so is an object or the context. Or two spellings that
-- are not taken, of which one is a section of interface types: it may be passed over, so that
-- reading comes to the other behind it.
abbrev pub MayBothStand : TranslateError → TranslateError → Type 0
MayBothStand TooLarge OffsetOverflow = Unit {0}
MayBothStand OffsetOverflow TooLarge = Unit {0}
MayBothStand (Unsupported v) (Unsupported w) = (v ≡ InterfaceTypes) ⊎ (w ≡ InterfaceTypes)
MayBothStand e f = ⊥
