-- Readers: what is read from the front of a text, or how many bytes are left where reading stops; and the ways to put
-- readers together. A grammar is written with these words. This project's own.
use Rattle.std.specs.Prelude.{◌≡◌, ℕ, zero, suc, List, [], ◌∷◌, ◌++◌, length, Result, Ok, Err, Option, None, Some, Bool, ◌==◌, if◌then◌else◌}
use Rattle.readers.specs.declared.stop.Stop.{Stop}
use Rattle.readers.specs.declared.stop.Stop.TheVariants.{Bad, End, Deep}
use Rattle.readers.specs.declared.stop.Refusal.{Refusal}
use Rattle.readers.specs.declared.stop.Refusal.TheVariants as refusal

-- a value and the text after it, or why reading stops
abbrev pub Outcome : Type 0 → Type 0
Outcome A = Result (A × List ℕ) Stop

-- what is read from the front of each text
abbrev pub Reader : Type 0 → Type 0
Reader A = List ℕ → Outcome A

-- ---- code that reads

-- the code refuses: out of memory, or reading stops there
abbrev pub Fails : {Y : Type 0} → Refusal → Result Y Stop → Type 0
Fails refusal.Memory read = Unit {0}
Fails (refusal.At stop) read = read ≡ Err stop

-- the code answers what reading gives, unless out of memory
abbrev pub Gives : {X Y : Type 0} → (X → Y) → Result X Refusal → Result Y Stop → Type 0
Gives view (Ok x) read = read ≡ Ok (view x)
Gives view (Err e) read = Fails e read

-- ---- ways to put readers together

infixl 10 ◌>>=◌
-- go on with what was read, or stop
abbrev pub ◌>>=◌ : {A B : Type 0} → Result A Stop → (A → Result B Stop) → Result B Stop
(Ok x) >>= f = f x
(Err e) >>= f = Err e

-- another value of the one that was read
abbrev pub remade : {A B : Type 0} → (A → B) → A × List ℕ → Outcome B
remade make x = Ok (make x.0, x.1)

-- the value made into another
abbrev pub made : {A B : Type 0} → (A → B) → Reader A → Reader B
made make r bytes = r bytes >>= remade make

-- one after another
abbrev pub seq : {A B : Type 0} → Reader A → Reader B → Reader (A × B)
seq r s bytes = r bytes >>= λ x. s x.1 >>= λ y. Ok ((x.0, y.0), y.1)

-- by the first byte: b is taken and q goes on, or else another reader begins there
abbrev pub choose : {A : Type 0} → ℕ → Reader A → Reader A → Reader A
choose b q other [] = Err End
choose b q other (c ∷ rest) = if c == b then q rest else other (c ∷ rest)

-- no byte is right
abbrev pub nothing : {A : Type 0} → Reader A
nothing [] = Err End
nothing (c ∷ rest) = Err (Bad (length (c ∷ rest)))

-- nothing more is read
abbrev pub done : Reader (Unit {0})
done bytes = Ok (tt, bytes)

-- the byte b
abbrev pub byte_at : ℕ → Reader (Unit {0})
byte_at b = choose b done nothing

-- what r reads, and then the byte b
abbrev pub closed : {A : Type 0} → Reader A → ℕ → Reader A
closed r b = made (λ p. p.0) (seq r (byte_at b))

-- the byte b and then what r reads, or neither
abbrev pub optional : {A : Type 0} → ℕ → Reader A → Reader (Option A)
optional b r [] = Ok (None, [])
optional b r (c ∷ rest) = if c == b then (r rest >>= remade Some) else Ok (None, c ∷ rest)

-- what r reads, where the first byte does not pass the test
abbrev pub unless : {A : Type 0} → (ℕ → Bool) → Reader A → Reader A
unless test r [] = Err End
unless test r (c ∷ rest) = if test c then Err (Bad (length (c ∷ rest))) else r (c ∷ rest)

-- at most k items, and then the byte b
abbrev pub up_to : {A : Type 0} → ℕ → Reader A → ℕ → Reader (List A)
up_to b item zero = made (λ x. []) (byte_at b)
up_to b item (suc k) = choose b (made (λ x. []) done) (made (λ p. p.0 ∷ p.1) (seq item (up_to b item k)))

-- any number of items, each of which takes a byte at least, and then the byte b
abbrev pub many : {A : Type 0} → ℕ → Reader A → Reader (List A)
many b item bytes = up_to b item (length bytes) bytes

-- no node may begin here, since it would be too deep: a byte that begins one is `Deep`, and any other is `Bad`
unfoldable pub too_deep : {A : Type 0} → (ℕ → Bool) → Reader A
too_deep begins [] = Err End
too_deep begins (b ∷ rest) = if begins b then Err (Deep (length (b ∷ rest))) else Err (Bad (length (b ∷ rest)))

-- what was read before stands in front
abbrev pub with_front : {A : Type 0} → List A → Outcome (List A) → Outcome (List A)
with_front front read = read >>= λ x. Ok (front ++ x.0, x.1)

-- the reader takes all of the text; else the first byte after it is `Bad`
abbrev pub whole_of : {A : Type 0} → Reader A → List ℕ → Result A Stop
whole_of r bytes = r bytes >>= λ x. if length x.1 == 0 then Ok x.0 else Err (Bad (length x.1))
