-- Commands that words name are usable.
use Rattle.std.proofs.Common.{◌≡◌, ℕ, List, [], ◌∷◌, inl, inr, refl, sym, subst}
use Rattle.std.specs.Prelude.{Option, Some, None, IfSome}
use Rattle.std.specs.List.{AllByRecursion}
use Rattle.command_words.specs.declared.command.Command.{Command}
use Rattle.command_words.specs.declared.settings.Setting.{Setting}
use Rattle.command_words.specs.declared.settings.Setting.TheVariants.{Cow, LazyTables, BranchHints, NativeDebug, GuestDebug}
use Rattle.command_words.specs.declared.settings.Setting.TheVariants.{Page, MaxImage, Ptr4, Ptr8, GcDrc, GcNull}
use Rattle.command_words.specs.Options.{row, IsAllowed}
use Rattle.command_words.specs.Commands.{Chooses, IsUsable, IsMade, plain_command, with_settings}

set-is-usable : (s : Setting) (c : Command) → IsAllowed s → IsUsable c → IsUsable ((row s).sets c)
set-is-usable Cow c allowed u = record { pointer = u.pointer; page_size = u.page_size; made = u.made }
set-is-usable LazyTables c allowed u = record { pointer = u.pointer; page_size = u.page_size; made = u.made }
set-is-usable BranchHints c allowed u = record { pointer = u.pointer; page_size = u.page_size; made = u.made }
set-is-usable NativeDebug c allowed u = record { pointer = u.pointer; page_size = u.page_size; made = u.made }
set-is-usable GuestDebug c allowed u = record { pointer = u.pointer; page_size = u.page_size; made = u.made }
set-is-usable (Page n) c allowed u = record { pointer = u.pointer; page_size = allowed.0; made = u.made }
set-is-usable (MaxImage n) c allowed u = record { pointer = u.pointer; page_size = u.page_size; made = u.made }
set-is-usable Ptr4 c allowed u = record { pointer = inl refl; page_size = u.page_size; made = u.made }
set-is-usable Ptr8 c allowed u = record { pointer = inr refl; page_size = u.page_size; made = u.made }
set-is-usable GcDrc c allowed u = record { pointer = u.pointer; page_size = u.page_size; made = u.made }
set-is-usable GcNull c allowed u = record { pointer = u.pointer; page_size = u.page_size; made = u.made }

settings-are-usable : (settings : List Setting) (c : Command) → AllByRecursion IsAllowed settings → IsUsable c → IsUsable (with_settings c settings)
settings-are-usable [] c allowed u = u
settings-are-usable (s ∷ settings) c allowed u = settings-are-usable settings ((row s).sets c) allowed.1 (set-is-usable s c allowed.0 u)

-- what options make of the plain command is usable
pub chosen-is-usable : (words : List (List ℕ)) (generate : Option ℕ) (plain : Command) (r : Option Command) → plain ≡ plain_command generate
    → IfSome generate IsMade → IfSome r (Chooses words plain) → IfSome r IsUsable
chosen-is-usable words generate plain None is made chooses = tt
chosen-is-usable words generate plain (Some command) is made chooses =
    let usable : IsUsable (plain_command generate) = record { pointer = inr refl; page_size = (12, refl); made = made } in
    let P : Command → Type 0 = IsUsable in
    subst P (sym chooses.chosen) (settings-are-usable chooses.settings plain chooses.allowed (subst P (sym is) usable))
