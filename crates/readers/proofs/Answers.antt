-- What a public call answers that reads a whole text by a reader that keeps the laws: for each of its clauses one lemma, by
-- cases on what the call returns.
use Rattle.std.proofs.Common.{◌≡◌, ℕ, ◌⊎◌, inl, inr, Bool, List, length, Result, Ok, Err, refl, sym, ap, subst, ◌∙◌}
use Rattle.std.specs.Prelude.{IfOk}
use Rattle.readers.specs.declared.stop.Stop.{Stop}
use Rattle.readers.specs.declared.fault.TextFault.{TextFault}
use Rattle.readers.specs.declared.fault.Unread.{Unread}
use Rattle.readers.specs.declared.fault.Unread.TheVariants as unread
use Rattle.readers.specs.declared.stop.Stop.TheVariants as stop
use Rattle.readers.specs.declared.stop.Refusal.{Refusal}
use Rattle.readers.specs.declared.stop.Refusal.TheVariants as refusal
use Rattle.readers.specs.Spelling.{Form, Spells}
use Rattle.readers.specs.Readers.{Reader, Fails, whole_of}
use Rattle.readers.specs.TextFaults.{HasFault, IsFirstFault, placed, told, LeavesWithin}
use Rattle.readers.proofs.Laws.{Laws}
use Rattle.readers.proofs.First as firsts

module _ (n : ℕ) {A : Type 0} (r : Reader A) (F : Form A) (follows : ℕ → Bool) (laws : Laws n r F follows) where
  -- the reader of the whole text
  abbrev whole : List ℕ → Result A Stop
  whole = whole_of r

  -- one value
  same_ok : (v : Result A Stop) (a b : A) → v ≡ Ok a → v ≡ Ok b → a ≡ b
  same_ok v a b e f = cc

  -- one stop
  same_err : (v : Result A Stop) (s u : Stop) → v ≡ Err s → v ≡ Err u → s ≡ u
  same_err v s u e f = cc

  -- not both
  clash : (v : Result A Stop) (a : A) (s : Stop) → v ≡ Ok a → v ≡ Err s → ⊥
  clash v a s e f = absurd cc

  -- a text without a fault spells a value
  pub some : (text : List ℕ) → ((f : TextFault) → HasFault n F text f → ⊥) → (a : A) × Spells n F a text
  some text fine = by_answer (whole text) refl
    where
      by_answer : (v : Result A Stop) → whole text ≡ v → (a : A) × Spells n F a text
      by_answer (Ok a) e = (a, firsts.found n r F follows laws text a e)
      by_answer (Err s) e = absurd (fine (placed (length text) s) (firsts.first n r F follows laws text s e).0)

  -- and it spells one value
  pub one : (text : List ℕ) (a b : A) → Spells n F a text → Spells n F b text → a ≡ b
  one text a b h k = same_ok (whole text) a b (firsts.only n r F follows laws text a h.0 h.1 h.2) (firsts.only n r F follows laws text b k.0 k.1 k.2)

  -- no more is left than there is
  left_in : (text : List ℕ) (s : Stop) → whole text ≡ Err s → LeavesWithin (length text) (refusal.At s)
  left_in text (stop.Bad left) e = firsts.left_in n r F follows laws text left e
  left_in text stop.End e = tt
  left_in text (stop.Deep left) e = firsts.deep_in n r F follows laws text left e

  -- a refusal of the code can be reported with its place
  pub may_tell : (text : List ℕ) (e : Refusal) → Fails e (whole text) → LeavesWithin (length text) e
  may_tell text refusal.Memory g = tt
  may_tell text (refusal.At s) g = left_in text s g

  -- the call answers what reading the whole text gives
  abbrev pub Answers : List ℕ → Result A Unread → Type 0
  Answers text (Ok a) = whole text ≡ Ok a
  Answers text (Err unread.Memory) = Unit {0}
  Answers text (Err (unread.At f)) = (s : Stop) × (whole text ≡ Err s) × (placed (length text) s ≡ f)

  -- a refusal, with its place
  pub answers_err : (text : List ℕ) (e : Refusal) → Fails e (whole text) → Answers text (Err (told (length text) e))
  answers_err text refusal.Memory g = tt
  answers_err text (refusal.At s) g = (s, g, refl)

  -- what is answered is spelled so
  pub by_found : (text : List ℕ) (v : Result A Unread) → Answers text v → IfOk v (λ a. Spells n F a text)
  by_found text (Ok a) h = firsts.found n r F follows laws text a h
  by_found text (Err e) h = tt

  -- what is spelled so is answered, unless out of memory
  pub by_only : (text : List ℕ) (v : Result A Unread) → Answers text v → (a : A) → Spells n F a text → (v ≡ Ok a) ⊎ (v ≡ Err unread.Memory)
  by_only text (Ok b) h a s = inl (ap Ok (same_ok (whole text) b a h (firsts.only n r F follows laws text a s.0 s.1 s.2)))
  by_only text (Err unread.Memory) h a s = inr refl
  by_only text (Err (unread.At f)) h a s = absurd (clash (whole text) a h.0 (firsts.only n r F follows laws text a s.0 s.1 s.2) h.1)

  -- the fault that is answered is the first
  pub by_fault : (text : List ℕ) (v : Result A Unread) → Answers text v → (f : TextFault) → v ≡ Err (unread.At f) → IsFirstFault n F text f
  by_fault text v h f e =
      let b : Answers text (Err (unread.At f)) = subst (Answers text) e h in
      subst (IsFirstFault n F text) b.2 (firsts.first n r F follows laws text b.0 b.1)

  -- the first fault is answered, unless out of memory
  pub by_first : (text : List ℕ) (v : Result A Unread) → Answers text v → (f : TextFault) → IsFirstFault n F text f → (v ≡ Err (unread.At f)) ⊎ (v ≡ Err unread.Memory)
  by_first text (Ok a) h f is = let k = firsts.answered n r F follows laws text f is in absurd (clash (whole text) a k.0 h k.1)
  by_first text (Err unread.Memory) h f is = inr refl
  by_first text (Err (unread.At g)) h f is =
      let k = firsts.answered n r F follows laws text f is in
      let same : h.0 ≡ k.0 = same_err (whole text) h.0 k.0 h.1 k.1 in
      inl (ap (λ (z : TextFault). Err (unread.At z)) (sym h.2 ∙ ap (placed (length text)) same ∙ k.2))
