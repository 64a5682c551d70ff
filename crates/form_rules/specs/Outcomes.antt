-- What checks need, and how they end.
use Rattle.std.specs.Prelude.{◌≡◌, ◌+◌, ◌≤◌, length, Result, Ok, Err}
use Rattle.rule_spec.specs.Lists.{Lists}
use Rattle.form_rules.specs.declared.error.CheckError.{CheckError}
use Rattle.form_rules.specs.declared.error.CheckError.TheVariants as checks

-- the module passed, or memory ran out
abbrev pub ChecksOrNoMemory : {A : Type 0} → Result A CheckError → Type 0
ChecksOrNoMemory (Ok x) = Unit {0}
ChecksOrNoMemory (Err e) = e ≡ checks.OutOfMemory

-- each defined global has an entry in the index space of globals
abbrev pub HasGlobals : Lists → Type 0
HasGlobals l = l.imported_globals + length l.globals ≤ length l.global_types
