-- What the error of each layer below is to a translation.
use Rattle.form_reader.specs.declared.error.ReadError.{ReadError}
use Rattle.form_reader.specs.declared.error.ReadError.TheVariants as read
use Rattle.form_rules.specs.declared.error.CheckError.{CheckError}
use Rattle.form_rules.specs.declared.error.CheckError.TheVariants as checks
use Rattle.module_types.specs.declared.error.BuildError.{BuildError}
use Rattle.module_types.specs.declared.error.BuildError.TheVariants as build
use Rattle.module_environ.specs.declared.error.EnvironError.{EnvironError}
use Rattle.module_environ.specs.declared.error.EnvironError.TheVariants as refusal

abbrev pub error_of_read : ReadError → EnvironError
error_of_read read.Malformed = refusal.Malformed
error_of_read (read.Unsupported what) = refusal.Unsupported what
error_of_read read.TooLarge = refusal.TooLarge
error_of_read read.OutOfMemory = refusal.OutOfMemory

abbrev pub error_of_check : CheckError → EnvironError
error_of_check (checks.Invalid rule) = refusal.Invalid rule
error_of_check checks.OutOfMemory = refusal.OutOfMemory

abbrev pub error_of_build : BuildError → EnvironError
error_of_build build.OutOfMemory = refusal.OutOfMemory
error_of_build build.Poisoned = refusal.Poisoned
