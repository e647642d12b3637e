-- What every reader keeps, that reads a form with nodes of at most n in depth: the laws that the ways to put readers
-- together hand on, and from which the exact first fault follows.
use Rattle.std.proofs.Common.{◌≡◌, ℕ, Bool, true, eqb, List, ◌∷◌, ◌++◌, length, Ok, Err, None, Some, sym, ap, ◌∙◌}
use Rattle.std.proofs.lemmas.Bool.{eqb-true}
use Rattle.std.proofs.lemmas.Option.{none-some}
use Rattle.readers.specs.declared.stop.Stop.TheVariants.{Bad, End, Deep}
use Rattle.readers.specs.Spelling.{Form, Begun, Within, none}
use Rattle.readers.specs.Readers.{Reader}
use Rattle.readers.proofs.Cuts.{After, later, cut, within_cut, length_none, within_none}

-- the text before the fault is the front of a spelling, and the fault doesn't depend on what comes later
pub record Breaks {A : Type 0} (r : Reader A) (F : Form A) (bytes : List ℕ) (left : ℕ) : Type 0 where
  pub front : List ℕ
  pub byte : ℕ
  pub rest : List ℕ
  pub parts : bytes ≡ front ++ (byte ∷ rest)
  pub place : left ≡ length (byte ∷ rest)
  pub stays : (other : List ℕ) → r (front ++ (byte ∷ other)) ≡ Err (Bad (length (byte ∷ other)))
  pub begun : Begun F.print F.shaped front

-- after the text before the fault a type of depth n + 1 begins with this byte
pub record Dives (n : ℕ) {A : Type 0} (F : Form A) (bytes : List ℕ) (left : ℕ) : Type 0 where
  pub front : List ℕ
  pub byte : ℕ
  pub rest : List ℕ
  pub parts : bytes ≡ front ++ (byte ∷ rest)
  pub place : left ≡ length (byte ∷ rest)
  pub whole : A
  pub is_shaped : F.shaped whole
  pub first : cut n (F.print whole) (F.depths whole) ≡ Some (front, byte)

-- the laws of a reader r of the form F, whose nodes may be n deep; `follows` says which bytes may stand after a spelling
pub record Laws (n : ℕ) {A : Type 0} (r : Reader A) (F : Form A) (follows : ℕ → Bool) : Type 0 where
  -- what is read stands before the rest, has a spelling, and is at most n deep
  pub takes : (bytes : List ℕ) (a : A) (rest : List ℕ) → r bytes ≡ Ok (a, rest) → (bytes ≡ F.print a ++ rest) × F.shaped a × Within n (F.depths a)
  -- a spelling that is not too deep has a depth for each of its bytes
  pub long : (a : A) → F.shaped a → cut n (F.print a) (F.depths a) ≡ None → length (F.depths a) ≡ length (F.print a)
  -- such a spelling is read, if what stands after it may follow
  pub again : (a : A) (rest : List ℕ) → F.shaped a → cut n (F.print a) (F.depths a) ≡ None → After follows rest → r (F.print a ++ rest) ≡ Ok (a, rest)
  -- one that is too deep is read up to the first node that is, whatever follows
  pub dives : (a : A) (front : List ℕ) (b : ℕ) (other : List ℕ) → F.shaped a → cut n (F.print a) (F.depths a) ≡ Some (front, b) → r (front ++ (b ∷ other)) ≡ Err (Deep (length (b ∷ other)))
  -- the byte after what was read decides: with any other text after that byte the same is read
  pub holds : (bytes : List ℕ) (a : A) (b : ℕ) (more other : List ℕ) → r bytes ≡ Ok (a, b ∷ more) → r (F.print a ++ (b ∷ other)) ≡ Ok (a, b ∷ other)
  -- a wrong byte stands after the front of a spelling, and is wrong whatever follows
  pub bad : (bytes : List ℕ) (left : ℕ) → r bytes ≡ Err (Bad left) → Breaks r F bytes left
  -- where reading stops as too deep, some spelling has a node that is
  pub deep : (bytes : List ℕ) (left : ℕ) → r bytes ≡ Err (Deep left) → Dives n F bytes left
  -- a text that ends too early is the front of a spelling
  pub ending : (bytes : List ℕ) → r bytes ≡ Err End → Begun F.print F.shaped bytes

-- ---- one byte in front

-- a wrong byte after b, of a reader that takes b and then reads as another
pub Breaks-behind : {A B : Type 0} (r : Reader A) (F : Form A) (it : Reader B) (G : Form B) (b c : ℕ) (bytes : List ℕ) (left : ℕ) → eqb c b ≡ true → (k : Breaks r F bytes left)
    → ((other : List ℕ) → it (b ∷ (k.front ++ (k.byte ∷ other))) ≡ Err (Bad (length (k.byte ∷ other)))) → Begun G.print G.shaped (b ∷ k.front) → Breaks it G (c ∷ bytes) left
Breaks-behind r F it G b c bytes left hit k stays begun = record {
  front = b ∷ k.front;
  byte = k.byte;
  rest = k.rest;
  parts = ap (λ (z : ℕ). z ∷ bytes) (eqb-true c b hit) ∙ ap (λ (z : List ℕ). b ∷ z) k.parts;
  place = k.place;
  stays = stays;
  begun = begun;
}

-- a node after b that is too deep, of a value whose spelling is b and then another's
pub Dives-behind : (n : ℕ) {A B : Type 0} (F : Form A) (G : Form B) (b c : ℕ) (bytes : List ℕ) (left : ℕ) → eqb c b ≡ true → (k : Dives n F bytes left) (whole : B) → G.shaped whole
    → cut n (G.print whole) (G.depths whole) ≡ later b (cut n (F.print k.whole) (F.depths k.whole)) → Dives n G (c ∷ bytes) left
Dives-behind n F G b c bytes left hit k whole is_shaped cuts = record {
  front = b ∷ k.front;
  byte = k.byte;
  rest = k.rest;
  parts = ap (λ (z : ℕ). z ∷ bytes) (eqb-true c b hit) ∙ ap (λ (z : List ℕ). b ∷ z) k.parts;
  place = k.place;
  whole = whole;
  is_shaped = is_shaped;
  first = cuts ∙ ap (later b) k.first;
}

-- ---- a reader of values without nodes

-- the laws of a reader of values without nodes
pub record Leaf {A : Type 0} (r : Reader A) (print : A → List ℕ) (shaped : A → Type 0) (follows : ℕ → Bool) : Type 0 where
  pub takes : (bytes : List ℕ) (a : A) (rest : List ℕ) → r bytes ≡ Ok (a, rest) → (bytes ≡ print a ++ rest) × shaped a
  pub again : (a : A) (rest : List ℕ) → shaped a → After follows rest → r (print a ++ rest) ≡ Ok (a, rest)
  pub holds : (bytes : List ℕ) (a : A) (b : ℕ) (more other : List ℕ) → r bytes ≡ Ok (a, b ∷ more) → r (print a ++ (b ∷ other)) ≡ Ok (a, b ∷ other)
  pub bad : (bytes : List ℕ) (left : ℕ) → r bytes ≡ Err (Bad left) → Breaks r (record { print = print; depths = λ a. none (print a); shaped = shaped }) bytes left
  pub deep : (bytes : List ℕ) (left : ℕ) → r bytes ≡ Err (Deep left) → ⊥
  pub ending : (bytes : List ℕ) → r bytes ≡ Err End → Begun print shaped bytes

-- a form of values without nodes
abbrev pub leaf : {A : Type 0} → (A → List ℕ) → (A → Type 0) → Form A
leaf print shaped = record { print = print; depths = λ a. none (print a); shaped = shaped }

-- a reader of values without nodes has the laws at each depth
pub leaf_laws : (n : ℕ) {A : Type 0} (r : Reader A) (print : A → List ℕ) (shaped : A → Type 0) (follows : ℕ → Bool) → Leaf r print shaped follows → Laws n r (leaf print shaped) follows
leaf_laws n r print shaped follows laws = record {
  takes = λ bytes a rest e. let k = laws.takes bytes a rest e in (k.0, k.1, within_none n (print a));
  long = λ a f e. length_none (print a);
  again = λ a rest f e after. laws.again a rest f after;
  dives = λ a front b other f e. let g = within_cut n (print a) (none (print a)) (within_none n (print a)) in absurd (none-some (front, b) (sym g ∙ e));
  holds = laws.holds;
  bad = laws.bad;
  deep = λ bytes left e. absurd (laws.deep bytes left e);
  ending = laws.ending;
}
