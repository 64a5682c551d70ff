-- How parts of the grammar are read: by a function on lists, and why the two agree. Each way to
-- combine parts is here once, so that how a part is read follows the definition of the part, and is
-- one row.
use Rattle.std.specs.Prelude.{ℕ, List, [], Bool, Option}
use Rattle.wasm_spec.specs.declared.operators.What.{What}
use Rattle.wasm_spec.specs.Parts as part
use Rattle.wasm_spec.specs.Parts.{Part}
use Rattle.form_reader.specs.Reading as at
use Rattle.form_reader.specs.Reading.{Reader, Filler}
use Rattle.form_reader.specs.ReadingNumbers as number
use Rattle.form_reader.specs.Agrees as law
use Rattle.form_reader.specs.Agrees.{Agrees, Fills}
use Rattle.form_reader.specs.NumberLaws as law_of
use Rattle.form_reader.specs.MadeLaws as made

-- how a part is read that ends by itself
pub record Row {A : Type 0} (part : Part A) : Type 0 where
  pub read : Reader A
  pub agrees : Agrees read part

-- how a part is read that takes all remaining bytes
pub record RestRow {A : Type 0} (part : Part A) : Type 0 where
  pub read : Filler A
  pub agrees : Fills read part

-- ---- the basic rows

abbrev pub gives : {A : Type 0} → (x : A) → Row (part.gives x)
gives x = record { read = at.gives_at x; agrees = law.gives_agrees x }

abbrev pub nothing : {A : Type 0} → Row {A = A} part.nothing
nothing = record { read = at.nothing_at; agrees = law.nothing_agrees }

abbrev pub stops_at : {A : Type 0} → (here : What) → Row {A = A} (part.stops_at here)
stops_at here = record { read = at.stopped_at here; agrees = law.stopped_agrees here }

abbrev pub unsigned : (k : ℕ) → Row (part.unsigned k)
unsigned k = record { read = number.unsigned_at k; agrees = law_of.unsigned_agrees k }

abbrev pub signed : (k : ℕ) → Row (part.signed k)
signed k = record { read = number.signed_at k; agrees = law_of.signed_agrees k }

abbrev pub non_negative : (k : ℕ) → Row (part.non_negative k)
non_negative k = record { read = number.non_negative_at k; agrees = law_of.non_negative_agrees k }

abbrev pub raw_bytes : (n : ℕ) → Row (part.raw_bytes n)
raw_bytes n = record { read = at.raw_bytes_at n; agrees = law.raw_bytes_agree n }

abbrev pub counted_bytes : Row part.counted_bytes
counted_bytes = record { read = number.counted_bytes_at; agrees = law_of.counted_bytes_agree }

abbrev pub all_bytes_as : {A : Type 0} → (f : List ℕ → A) → RestRow (part.all_bytes_as f)
all_bytes_as f = record { read = at.all_bytes_at f; agrees = law.all_bytes_fill f }

-- ---- how rows are combined

infixl 10 ◌>>=◌
abbrev pub ◌>>=◌ : {A B : Type 0} {g : Part A} {h : A → Part B} → Row g → ((x : A) → Row (h x)) → Row (part.◌>>=◌ g h)
first >>= second = record { read = at.◌>>=◌ first.read (λ x. (second x).read); agrees = law.then_agrees first.agrees (λ x. (second x).agrees) }

abbrev pub choose : {A : Type 0} {g h : Part A} → (test : Bool) → Row g → Row h → Row (part.choose test g h)
choose test p q = record { read = at.choose_at test p.read q.read; agrees = law.choose_agrees test p.agrees q.agrees }

abbrev pub given : {A B : Type 0} {g : A → Part B} {h : Part B} → (o : Option A) → ((x : A) → Row (g x)) → Row h → Row (part.given o g h)
given o p other = record { read = at.given_at o (λ x. (p x).read) other.read; agrees = law.given_agrees o (λ x. (p x).agrees) other.agrees }

abbrev pub optional : {A : Type 0} {g : Part A} → (test : Bool) → Row g → Row (part.optional test g)
optional test p = record { read = at.optional_at test p.read; agrees = law.optional_agrees test p.agrees }

abbrev pub first_byte : {A : Type 0} {g : ℕ → Part A} → ((b : ℕ) → Row (g b)) → Row (part.first_byte g)
first_byte p = record { read = at.first_byte_at (λ b. (p b).read); agrees = law.first_byte_agrees (λ b. (p b).agrees) }

-- nothing is spelled by no byte
abbrev pub next_byte : {A : Type 0} {g : ℕ → Part A} → ((b : ℕ) → Row (g b)) → ((b : ℕ) (x : A) → ¬ (g b).spells [] x) → Row (part.next_byte g)
next_byte p filled = record { read = at.next_byte_at (λ b. (p b).read); agrees = law.next_byte_agrees (λ b. (p b).agrees) filled }

abbrev pub vector : {A : Type 0} {g : Part A} → Row g → Row (part.vector g)
vector p = record { read = number.vector_at p.read; agrees = law_of.vector_agrees p.agrees }

-- a value with the number of its bytes
abbrev pub measured : {A : Type 0} {g : Part A} → Row g → Row (part.measured g)
measured p = record { read = at.measured_at p.read; agrees = made.measured_agrees p.agrees }

-- ---- contents that fill a size

-- a value, and then contents that fill the rest
abbrev pub fill_after : {A B : Type 0} {g : Part A} {h : A → Part B} → Row g → ((x : A) → RestRow (h x)) → RestRow (part.◌>>=◌ g h)
fill_after first second = record { read = at.fill_after first.read (λ x. (second x).read); agrees = law.fill_after_fills first.agrees (λ x. (second x).agrees) }

abbrev pub sized : {A : Type 0} {g : Part A} → RestRow g → Row (part.sized g)
sized p = record { read = number.sized_at p.read; agrees = law_of.sized_agrees p.agrees }

-- a part that fills n bytes, converted to a value
abbrev pub filled_as : {A B : Type 0} {g : Part A} → (n : ℕ) (make : A → B) → Row g → Row (part.filled (part.◌>>=◌ g (λ x. part.gives (make x))) n)
filled_as n make p = record { read = at.◌>>=◌ (at.filled_at (at.whole p.read) n) (λ x. at.gives_at (make x)); agrees = made.filled_made n make p.agrees }

-- a size, and a part that fills it, converted to a value
abbrev pub sized_as : {A B : Type 0} {g : Part A} → (make : A → B) → Row g → Row (part.sized (part.◌>>=◌ g (λ x. part.gives (make x))))
sized_as make p = record { read = at.◌>>=◌ (number.sized_at (at.whole p.read)) (λ x. at.gives_at (make x)); agrees = made.sized_made make p.agrees }
