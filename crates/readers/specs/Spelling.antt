-- Spellings: a kind of value, as a number, a name or a whole tree, and the text that each value of it has.
-- This project's own. Texts are lists of byte numbers; a value's spelling never depends on how it was read.
-- Where values hold others of one recursive kind, as types hold types, that kind is called "node" here: the outermost
-- node has depth 1, and a node directly inside another has one more.
use Rattle.std.specs.Prelude.{◌≡◌, ℕ, zero, suc, ◌≤◌, List, [], ◌∷◌, ◌++◌, map, Bool, true, ◌&&◌}

-- how a value is spelled; for each byte of its spelling the depth of the node that begins there, or 0; and which values have a spelling
pub record Form (A : Type 0) : Type 1 where
  pub print : A → List ℕ
  pub depths : A → List ℕ
  pub shaped : A → Type 0

-- the text is the front of a spelling, at any depth
pub record Begun {A : Type 0} (print : A → List ℕ) (shaped : A → Type 0) (text : List ℕ) : Type 0 where
  pub whole : A
  pub is_shaped : shaped whole
  pub more : List ℕ
  pub spelled : print whole ≡ text ++ more

-- no node is more than n deep
abbrev pub Within : ℕ → List ℕ → Type 0
Within n [] = Unit {0}
Within n (d ∷ ds) = (d ≤ n) × Within n ds

-- the text spells the value, none of whose nodes is more than n deep
abbrev pub Spells : ℕ → {A : Type 0} → Form A → A → List ℕ → Type 0
Spells n F a text = F.shaped a × Within n (F.depths a) × (text ≡ F.print a)

-- ---- lists of values

-- the items one after another, and then the end
abbrev pub ended : {A : Type 0} → (A → List ℕ) → List ℕ → List A → List ℕ
ended print end [] = end
ended print end (x ∷ xs) = print x ++ ended print end xs

-- each item passes the test
abbrev pub all_of : {A : Type 0} → (A → Bool) → List A → Bool
all_of test [] = true
all_of test (x ∷ xs) = test x && all_of test xs

-- ---- where nodes begin

-- no node begins in the text: as many zeros as bytes
abbrev pub none : List ℕ → List ℕ
none [] = []
none (b ∷ p) = 0 ∷ none p

-- a node's depth, once it stands inside one more
abbrev pub deeper : ℕ → ℕ
deeper zero = 0
deeper (suc d) = suc (suc d)

-- the depths in a node that stands directly inside another
abbrev pub inner : List ℕ → List ℕ
inner ds = map deeper ds

-- a list without its first item
abbrev pub tail : List ℕ → List ℕ
tail [] = []
tail (d ∷ ds) = ds
