-- How reading ends.
use Rattle.std.specs.Prelude.{◌≡◌, Result, Ok, Err}
use Rattle.wasm_spec.specs.Module.{Module}
use Rattle.form_reader.specs.declared.form.Form.{Form}
use Rattle.form_reader.specs.Views.{module_of}
use Rattle.form_reader.specs.declared.input.InputForm.{InputForm}
use Rattle.form_reader.specs.Input.{input_module_of}
use Rattle.form_reader.specs.declared.error.ReadError.{ReadError}
use Rattle.form_reader.specs.declared.error.ReadError.TheVariants as read

-- the module was read, or memory ran out
abbrev pub ReadsAs : Result Form ReadError → Module → Type 0
ReadsAs (Ok form) m = module_of form ≡ m
ReadsAs (Err e) m = e ≡ read.OutOfMemory

abbrev pub ReadsInputAs : Result InputForm ReadError → Module → Type 0
ReadsInputAs (Ok form) m = input_module_of form ≡ m
ReadsInputAs (Err e) m = e ≡ read.OutOfMemory
