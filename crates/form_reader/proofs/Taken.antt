-- What a function that needs no memory says of what is read.
use Rattle.std.proofs.Common.{◌≡◌, Option, Some, None, Result, Ok, Err, refl, sym, ap}
use Rattle.std.specs.Option.{ok_or}
use Rattle.std.specs.Result.{result_ok}
use Rattle.form_reader.specs.Reading.{Fault, Bad}

pub was_read : {A : Type 0} (x : A) (r : Result A Fault) → Some x ≡ result_ok r → r ≡ Ok x
was_read x (Ok y) e = ap (λ o. ok_or o Bad) (sym e)
was_read x (Err f) e = absurd cc

pub was_not_read : {A : Type 0} (r : Result A Fault) → None ≡ result_ok r → (fault : Fault) × (r ≡ Err fault)
was_not_read (Ok y) e = absurd cc
was_not_read (Err f) e = (f, refl)

pub taken_or : {A : Type 0} (o : Option A) (r : Result A Fault) → ok_or o Bad ≡ r → o ≡ result_ok r
taken_or None r e = ap result_ok e
taken_or (Some x) r e = ap result_ok e
