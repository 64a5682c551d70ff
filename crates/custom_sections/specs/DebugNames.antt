-- Names of custom sections that hold debug information.
use Rattle.std.specs.Prelude.{ℕ, zero, suc, ◌-◌, List, length, take, codes, Bool, nat_eq, if◌then◌else◌}
use Rattle.std.specs.List.{starts_with, ends_with}

-- a name without the last n times `.dwo` that it ends in
abbrev pub without_dwo : ℕ → List ℕ → List ℕ
without_dwo zero name = name
without_dwo (suc n) name = if ends_with nat_eq name (codes ".dwo") then without_dwo n (take (length name - 4) name) else name

-- it begins with `.debug_` once each `.dwo` that it ends in is cut
unfoldable pub is_debug : List ℕ → Bool
is_debug name = starts_with nat_eq (without_dwo (length name) name) (codes ".debug_")
