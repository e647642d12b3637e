-- What a reader of a whole text answers is the text's first fault, if its laws hold; and nothing else has a fault.
use Rattle.std.proofs.Common.{◌≡◌, ℕ, suc, ◌+◌, ◌-◌, ◌≤◌, ◌<◌, ◌⊎◌, inl, inr, Bool, false, eqb, cond, List, [], ◌∷◌, ◌++◌, length, take, drop, get_or, Result, Ok, Err, refl, sym, ap, subst, ◌∙◌, arith, append_assoc, length-append}
use Rattle.std.proofs.lemmas.Bool.{eqb-true, ne_eqb, cases_lt}
use Rattle.std.proofs.lemmas.List.{append-nil, nil_from_length, take-append-drop, length-take-le}
use Rattle.readers.specs.declared.stop.Stop.{Stop}
use Rattle.readers.specs.declared.stop.Stop.TheVariants.{Bad, End, Deep}
use Rattle.readers.specs.declared.fault.TextFault.{TextFault}
use Rattle.readers.specs.declared.fault.TextFault.TheVariants as fault
use Rattle.readers.specs.Spelling.{Form, Begun, Within, ended}
use Rattle.readers.specs.Readers.{Outcome, Reader, whole_of}
use Rattle.readers.specs.TextFaults.{TooDeep, HasFault, place_of, IsFirstFault, placed}
use Rattle.readers.proofs.Cases.{which, which_option, bind_ok, bind_err, ok_parts}
use Rattle.readers.proofs.Cuts.{cut, cut_front, within_cut}
use Rattle.readers.proofs.Laws.{Breaks, Laws}
use Rattle.readers.proofs.Fronts.{spot, place_is, front_of, begun_take, begun_taken, cut_opens, opens_cut}

-- the end of the text, or the first byte after it
abbrev last : {A : Type 0} → A × List ℕ → Result A Stop
last x = cond (eqb (length x.1) 0) (Ok x.0) (Err (Bad (length x.1)))

-- nothing is read where reading stops
clash : {X : Type 0} (v : Result X Stop) (x : X) (d : Stop) → v ≡ Ok x → v ≡ Err d → ⊥
clash v x d e f = absurd cc

-- a wrong byte is not too deep
bad_deep : {X : Type 0} (v : Result X Stop) (a b : ℕ) → v ≡ Err (Bad a) → v ≡ Err (Deep b) → ⊥
bad_deep v a b e f = absurd cc

-- the end is not too deep
end_deep : {X : Type 0} (v : Result X Stop) (b : ℕ) → v ≡ Err End → v ≡ Err (Deep b) → ⊥
end_deep v b e f = absurd cc

-- too deep at one place
deep_same : {X : Type 0} (v : Result X Stop) (a b : ℕ) → v ≡ Err (Deep a) → v ≡ Err (Deep b) → a ≡ b
deep_same v a b e f = cc

-- the rest is one
no_tail : {A : Type 0} (v : Outcome A) (x y : A) (b : ℕ) (more : List ℕ) → v ≡ Ok (x, []) → v ≡ Ok (y, b ∷ more) → ⊥
no_tail v x y b more e f = let p = ok_parts v v x y [] (b ∷ more) e f refl in let q : [] ≡ b ∷ more = p.1 in absurd cc

module _ (n : ℕ) {A : Type 0} (r : Reader A) (F : Form A) (follows : ℕ → Bool) (laws : Laws n r F follows) where
  -- the reader of the whole text
  abbrev whole : List ℕ → Result A Stop
  whole = whole_of r

  -- the front of a spelling
  abbrev Front : List ℕ → Type 0
  Front = Begun F.print F.shaped

  -- how a spelling is read: whole, or up to the first type that is too deep
  abbrev Reads : A → Type 0
  Reads a = (r (F.print a) ≡ Ok (a, [])) ⊎ ((left : ℕ) × (r (F.print a) ≡ Err (Deep left)))

  -- each spelling is read so
  reads : (a : A) → F.shaped a → Reads a
  reads a f =
      elim (which_option (cut n (F.print a) (F.depths a))) [
        | inl h ↦ inl (ap r (sym (append-nil (F.print a))) ∙ laws.again a [] f h tt)
        | inr h ↦
            let w = cut_front n (F.print a) (F.depths a) h.0.0 h.0.1 h.1 in
            inr (length (h.0.1 ∷ w.0), ap r w.1 ∙ laws.dives a h.0.0 h.0.1 w.0 f h.1)
      ]

  -- a byte from one side to the other
  regroup : (a : List ℕ) (b : ℕ) (more : List ℕ) → (a ++ (b ∷ [])) ++ more ≡ a ++ (b ∷ more)
  regroup a b more = append_assoc a (b ∷ []) more

  -- with a wrong byte the text begins no spelling
  none_begun : (bytes : List ℕ) (left : ℕ) (k : Breaks r F bytes left) → Front (k.front ++ (k.byte ∷ [])) → ⊥
  none_begun bytes left k g =
      let text : F.print g.whole ≡ k.front ++ (k.byte ∷ g.more) = g.spelled ∙ regroup k.front k.byte g.more in
      let broken : r (F.print g.whole) ≡ Err (Bad (length (k.byte ∷ g.more))) = ap r text ∙ k.stays g.more in
      elim (reads g.whole g.is_shaped) [
        | inl h ↦ clash (r (F.print g.whole)) (g.whole, []) _ h broken
        | inr h ↦ bad_deep (r (F.print g.whole)) _ h.0 broken h.1
      ]

  -- nor with a byte after what was read
  none_longer : (bytes : List ℕ) (a : A) (b : ℕ) (more : List ℕ) → r bytes ≡ Ok (a, b ∷ more) → Front (F.print a ++ (b ∷ [])) → ⊥
  none_longer bytes a b more e g =
      let text : F.print g.whole ≡ F.print a ++ (b ∷ g.more) = g.spelled ∙ regroup (F.print a) b g.more in
      let longer : r (F.print g.whole) ≡ Ok (a, b ∷ g.more) = ap r text ∙ laws.holds bytes a b more g.more e in
      elim (reads g.whole g.is_shaped) [
        | inl h ↦ no_tail (r (F.print g.whole)) g.whole a b g.more h longer
        | inr h ↦ clash (r (F.print g.whole)) (a, b ∷ g.more) _ longer h.1
      ]

  -- the text has the fault
  abbrev Is : List ℕ → TextFault → Type 0
  Is = HasFault n F

  -- a type that is too deep is met, at that place or before
  meets : (text : List ℕ) (p : ℕ) → TooDeep n F text p → (left : ℕ) × (r text ≡ Err (Deep left)) × (length text - left ≤ p) × (left ≤ length text)
  meets text p d =
      let cut_text : length (take (p + 1) text) ≡ p + 1 = length-take-le (p + 1) text (omega (arith, d.within)) in
      let long : p < length (F.print d.whole) = omega (arith, ap length d.spelled, length-append (take (p + 1) text) d.more, cut_text) in
      let k = opens_cut n (F.print d.whole) (F.depths d.whole) p long d.opens in
      let w = cut_front n (F.print d.whole) (F.depths d.whole) k.0 k.1 k.2 in
      let z = front_of k.0 k.1 w.0 (take (p + 1) text) d.more (sym w.1 ∙ d.spelled) (omega (arith, k.3, cut_text)) in
      let parts : text ≡ k.0 ++ (k.1 ∷ (z.0 ++ drop (p + 1) text)) = sym (take-append-drop (p + 1) text) ∙ ap (λ (y : List ℕ). y ++ drop (p + 1) text) z.1 ∙ append_assoc k.0 (k.1 ∷ z.0) (drop (p + 1) text) in
      let left : ℕ = length (k.1 ∷ (z.0 ++ drop (p + 1) text)) in
      let here = place_is text k.0 k.1 (z.0 ++ drop (p + 1) text) left parts refl in
      (left, ap r parts ∙ laws.dives d.whole k.0 k.1 (z.0 ++ drop (p + 1) text) d.is_shaped k.2, omega (arith, here, k.3), omega (arith, ap length parts, length-append k.0 (k.1 ∷ (z.0 ++ drop (p + 1) text))))

  -- what is read is not too deep
  no_deep_where_ok : (text : List ℕ) (p : ℕ) (x : A × List ℕ) → r text ≡ Ok x → TooDeep n F text p → ⊥
  no_deep_where_ok text p x e d = let m = meets text p d in clash (r text) x _ e m.1

  -- ---- a byte

  -- a wrong byte is the first fault
  bad_first : (text front : List ℕ) (byte : ℕ) (rest : List ℕ) (left : ℕ) → text ≡ front ++ (byte ∷ rest) → left ≡ length (byte ∷ rest) → Front front → (Front (front ++ (byte ∷ [])) → ⊥)
      → ((p : ℕ) → TooDeep n F text p → ⊥) → IsFirstFault n F text (placed (length text) (Bad left))
  bad_first text front byte rest left e l begun ended shallow =
      let p : ℕ = length text - left in
      let s = spot text front byte rest p e (place_is text front byte rest left e l) in
      let before : Front (take p text) = rw s.before begun in
      ((s.within, before, λ g. ended (subst Front s.through g)), others p s.within before)
    where
      others : (p : ℕ) → p < length text → Front (take p text) → (g : TextFault) → Is text g → p ≤ place_of g
      others p within before (fault.Byte q) h = elim (cases_lt q p) [ inl lt ↦ absurd (h.2 (begun_taken F.print F.shaped text (q + 1) p (omega (arith, lt)) (omega (arith, within)) before)) | inr ge ↦ ge ]
      others p within before (fault.End q) h = omega (arith, h.0, within)
      others p within before (fault.Deep q) h = absurd (shallow q h)

  -- ---- the end

  -- the end is the first fault
  end_first : (text : List ℕ) → Front text → ((a : A) → F.shaped a → F.print a ≡ text → ⊥) → ((p : ℕ) → TooDeep n F text p → ⊥) → IsFirstFault n F text (placed (length text) End)
  end_first text begun no_whole shallow = ((refl, begun, no_whole), others)
    where
      others : (g : TextFault) → Is text g → length text ≤ place_of g
      others (fault.Byte q) h = absurd (h.2 (begun_take F.print F.shaped text (q + 1) begun))
      others (fault.End q) h = omega (arith, h.0)
      others (fault.Deep q) h = absurd (shallow q h)

  -- ---- too deep

  -- too deep is the first fault
  deep_first : (text : List ℕ) (left : ℕ) → r text ≡ Err (Deep left) → IsFirstFault n F text (placed (length text) (Deep left))
  deep_first text left e =
      let k = laws.deep text left e in
      let w = cut_front n (F.print k.whole) (F.depths k.whole) k.front k.byte k.first in
      let p : ℕ = length text - left in
      let at = place_is text k.front k.byte k.rest left k.parts k.place in
      let s = spot text k.front k.byte k.rest p k.parts at in
      let spelled : F.print k.whole ≡ take (p + 1) text ++ w.0 = w.1 ∙ sym (regroup k.front k.byte w.0) ∙ ap (λ (z : List ℕ). z ++ w.0) (sym s.through) in
      let opens : get_or (F.depths k.whole) p 0 ≡ suc n = ap (λ (z : ℕ). get_or (F.depths k.whole) z 0) at ∙ cut_opens n (F.print k.whole) (F.depths k.whole) k.front k.byte k.first in
      let d : TooDeep n F text p = record { within = s.within; whole = k.whole; is_shaped = k.is_shaped; more = w.0; spelled = spelled; opens = opens } in
      (d, others p s.within (record { whole = k.whole; is_shaped = k.is_shaped; more = w.0; spelled = spelled }) refl)
    where
      others : (p : ℕ) → p < length text → Front (take (p + 1) text) → p ≡ length text - left → (g : TextFault) → Is text g → p ≤ place_of g
      others p within through at (fault.Byte q) h = elim (cases_lt q p) [ inl lt ↦ absurd (h.2 (begun_taken F.print F.shaped text (q + 1) (p + 1) (omega (arith, lt)) (omega (arith, within)) through)) | inr ge ↦ ge ]
      others p within through at (fault.End q) h = omega (arith, h.0, within)
      others p within through at (fault.Deep q) h = let m = meets text q h in let same = deep_same (r text) left m.0 e m.1 in omega (arith, m.2, same, at)

  -- ---- together

  -- what is read of the whole text is spelled so
  pub found : (text : List ℕ) (a : A) → whole text ≡ Ok a → F.shaped a × Within n (F.depths a) × (text ≡ F.print a)
  found text a e =
      let x = bind_ok (r text) last a e in
      let k = laws.takes text x.0.0 x.0.1 x.1 in
      elim (which (eqb (length x.0.1) 0)) [
        | inl h ↦
            let f : Ok x.0.0 ≡ Ok a = rw h at x.2 in
            let same : x.0.0 ≡ a = cc in
            let none : x.0.1 ≡ [] = nil_from_length x.0.1 (eqb-true _ _ h) in
            let is : text ≡ F.print x.0.0 = k.0 ∙ ap (λ (z : List ℕ). F.print x.0.0 ++ z) none ∙ append-nil (F.print x.0.0) in
            (subst F.shaped same k.1, subst (λ (z : A). Within n (F.depths z)) same k.2, subst (λ (z : A). text ≡ F.print z) same is)
        | inr h ↦ let f = rw h at x.2 in absurd cc
      ]

  -- what is spelled so is read
  pub only : (text : List ℕ) (a : A) → F.shaped a → Within n (F.depths a) → text ≡ F.print a → whole text ≡ Ok a
  only text a f w e =
      let read : r (F.print a) ≡ Ok (a, []) = ap r (sym (append-nil (F.print a))) ∙ laws.again a [] f (within_cut n (F.print a) (F.depths a) w) tt in
      ap whole e ∙ rw read refl

  -- a text that ends too early is no spelling
  end_whole : (text : List ℕ) → r text ≡ Err End → (a : A) → F.shaped a → F.print a ≡ text → ⊥
  end_whole text e a f is =
      elim (reads a f) [
        | inl h ↦ clash (r text) (a, []) End (ap r (sym is) ∙ h) e
        | inr h ↦ end_deep (r text) h.0 e (ap r (sym is) ∙ h.1)
      ]

  -- a byte after what was read is the first fault
  trailing : (text : List ℕ) (x : A × List ℕ) (s : Stop) → r text ≡ Ok x → last x ≡ Err s → IsFirstFault n F text (placed (length text) s)
  trailing text (a, []) s is e = absurd cc
  trailing text (a, b ∷ rest) s is e =
      let k = laws.takes text a (b ∷ rest) is in
      let more : eqb (length (b ∷ rest)) 0 ≡ false = ne_eqb (length (b ∷ rest)) 0 (λ h. absurd (omega (arith, h))) in
      let f : Err (Bad (length (b ∷ rest))) ≡ Err s = rw more at e in
      let stop : Bad (length (b ∷ rest)) ≡ s = cc in
      let begun : Front (F.print a) = record { whole = a; is_shaped = k.1; more = []; spelled = sym (append-nil (F.print a)) } in
      let first = bad_first text (F.print a) b rest (length (b ∷ rest)) k.0 refl begun (none_longer text a b rest is) (λ p d. no_deep_where_ok text p (a, b ∷ rest) is d) in
      subst (λ (z : Stop). IsFirstFault n F text (placed (length text) z)) stop first

  -- where reading stops is the first fault
  stopped : (text : List ℕ) (s : Stop) → r text ≡ Err s → IsFirstFault n F text (placed (length text) s)
  stopped text (Bad left) e =
      let k = laws.bad text left e in
      bad_first text k.front k.byte k.rest left k.parts k.place k.begun (none_begun text left k) (λ p d. let m = meets text p d in bad_deep (r text) left m.0 e m.1)
  stopped text End e = end_first text (laws.ending text e) (end_whole text e) (λ p d. let m = meets text p d in end_deep (r text) m.0 e m.1)
  stopped text (Deep left) e = deep_first text left e

  -- what is answered is the first fault
  pub first : (text : List ℕ) (s : Stop) → whole text ≡ Err s → IsFirstFault n F text (placed (length text) s)
  first text s e =
      elim (bind_err (r text) last s e) [
        | inl h ↦ stopped text s h
        | inr h ↦ trailing text h.0 s h.1 h.2
      ]

  -- what is read has no fault
  pub faultless : (text : List ℕ) (a : A) → whole text ≡ Ok a → (f : TextFault) → Is text f → ⊥
  faultless text a e f h = by_fault (found text a e) f h
    where
      read : (x : A × List ℕ) × (r text ≡ Ok x) × (last x ≡ Ok a)
      read = bind_ok (r text) last a e

      by_fault : F.shaped a × Within n (F.depths a) × (text ≡ F.print a) → (f : TextFault) → Is text f → ⊥
      by_fault k (fault.Byte p) h =
          let begun : Front text = record { whole = a; is_shaped = k.0; more = []; spelled = sym k.2 ∙ sym (append-nil text) } in
          h.2 (begun_take F.print F.shaped text (p + 1) begun)
      by_fault k (fault.End p) h = h.2 a k.0 (sym k.2)
      by_fault k (fault.Deep p) h = no_deep_where_ok text p read.0 read.1 h

  -- two faults never have one place
  pub one_place : (text : List ℕ) (f g : TextFault) → Is text f → Is text g → place_of f ≡ place_of g → f ≡ g
  one_place text (fault.Byte p) (fault.Byte q) f g e = ap fault.Byte e
  one_place text (fault.Byte p) (fault.End q) f g e = absurd (omega (arith, e, f.0, g.0))
  one_place text (fault.Byte p) (fault.Deep q) f g e = absurd (f.2 (subst (λ (z : ℕ). Front (take (z + 1) text)) (sym e) (record { whole = g.whole; is_shaped = g.is_shaped; more = g.more; spelled = g.spelled })))
  one_place text (fault.End p) (fault.Byte q) f g e = absurd (omega (arith, e, f.0, g.0))
  one_place text (fault.End p) (fault.End q) f g e = ap fault.End e
  one_place text (fault.End p) (fault.Deep q) f g e = absurd (omega (arith, e, f.0, g.within))
  one_place text (fault.Deep p) (fault.Byte q) f g e = absurd (g.2 (subst (λ (z : ℕ). Front (take (z + 1) text)) e (record { whole = f.whole; is_shaped = f.is_shaped; more = f.more; spelled = f.spelled })))
  one_place text (fault.Deep p) (fault.End q) f g e = absurd (omega (arith, e, f.within, g.0))
  one_place text (fault.Deep p) (fault.Deep q) f g e = ap fault.Deep e

  -- the first fault is answered
  pub answered : (text : List ℕ) (f : TextFault) → IsFirstFault n F text f → (s : Stop) × (whole text ≡ Err s) × (placed (length text) s ≡ f)
  answered text f h =
      elim (which_result (whole text)) [
        | inl k ↦ absurd (faultless text k.0 k.1 f h.0)
        | inr k ↦
            let own = first text k.0 k.1 in
            let there : TextFault = placed (length text) k.0 in
            let same : place_of there ≡ place_of f = le_antisym (own.1 f h.0) (h.1 there own.0) in
            (k.0, k.1, one_place text there f own.0 h.0 same)
      ]
    where
      which_result : (v : Result A Stop) → ((x : A) × (v ≡ Ok x)) ⊎ ((d : Stop) × (v ≡ Err d))
      which_result (Ok x) = inl (x, refl)
      which_result (Err d) = inr (d, refl)

      le_antisym : {x y : ℕ} → x ≤ y → y ≤ x → x ≡ y
      le_antisym p q = omega (arith, p, q)

  -- what is left is no more than the text
  pub left_in : (text : List ℕ) (left : ℕ) → whole text ≡ Err (Bad left) → left ≤ length text
  left_in text left e =
      elim (bind_err (r text) last (Bad left) e) [
        | inl h ↦ let k = laws.bad text left h in omega (arith, k.place, ap length k.parts, length-append k.front (k.byte ∷ k.rest))
        | inr h ↦ by_rest h.0 (laws.takes text h.0.0 h.0.1 h.1).0 h.2
      ]
    where
      by_rest : (x : A × List ℕ) → text ≡ F.print x.0 ++ x.1 → last x ≡ Err (Bad left) → left ≤ length text
      by_rest (a, []) parts f = absurd cc
      by_rest (a, b ∷ rest) parts f =
          let more : eqb (length (b ∷ rest)) 0 ≡ false = ne_eqb (length (b ∷ rest)) 0 (λ h. absurd (omega (arith, h))) in
          let g : Err (Bad (length (b ∷ rest))) ≡ Err (Bad left) = rw more at f in
          let same : length (b ∷ rest) ≡ left = cc in
          omega (arith, same, ap length parts, length-append (F.print a) (b ∷ rest))

  -- and so it is where reading is too deep
  pub deep_in : (text : List ℕ) (left : ℕ) → whole text ≡ Err (Deep left) → left ≤ length text
  deep_in text left e =
      elim (bind_err (r text) last (Deep left) e) [
        | inl h ↦ let k = laws.deep text left h in omega (arith, k.place, ap length k.parts, length-append k.front (k.byte ∷ k.rest))
        | inr h ↦ by_rest h.0 h.2
      ]
    where
      by_rest : (x : A × List ℕ) → last x ≡ Err (Deep left) → left ≤ length text
      by_rest (a, []) f = absurd cc
      by_rest (a, b ∷ rest) f =
          let more : eqb (length (b ∷ rest)) 0 ≡ false = ne_eqb (length (b ∷ rest)) 0 (λ h. absurd (omega (arith, h))) in
          let g : Err (Bad (length (b ∷ rest))) ≡ Err (Deep left) = rw more at f in absurd cc
