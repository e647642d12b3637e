-- Where the names of a string table end: an offset before that place has a name after it that a zero byte ends, and none other has.
use Rattle.std.proofs.Common.{◌≡◌, ◌≢◌, ◌∙◌, ℕ, ◌+◌, ◌-◌, ◌<◌, ◌≤◌, Bool, true, not, List, length, drop, get_or, refl, sym, ap, arith, inl, inr, length-drop}
use Rattle.std.specs.Prelude.{Option, Some, None, nat_lt, position, cond}
use Rattle.std.specs.List.{position_or_len}
use Rattle.std.proofs.lemmas.Bool.{cases_Bool, lt-ltb, le-ltb, ltb-false, ltb-true, eqb-true, true≢false}
use Rattle.std.proofs.lemmas.List.{get_or-drop}
use Rattle.std.proofs.lemmas.List.Quantifiers.{position-Some}
use Rattle.std.proofs.lemmas.List.Sums.{prefix_len_passes}
use Rattle.std.proofs.lemmas.Option.{none-some}
use Rattle.st_base.specs.declared.fault.TheConstants.{NO_END}
use Rattle.strtab.specs.StringTable.{is_zero}
use Rattle.aout_object.specs.Decoding.{EndsNames, end_fault, fault_unless}

-- ---- zero bytes

-- where there is no first zero byte, no byte is zero
nowhere : (bytes : List ℕ) (at : ℕ) → position is_zero bytes ≡ None → at < length bytes → get_or bytes at 0 ≢ 0
nowhere bytes at none within zero =
    elim (cases_Bool (nat_lt (position_or_len is_zero bytes) (length bytes))) [
      | inl there ↦ absurd (none-some (position_or_len is_zero bytes) (sym none ∙ ap (λ (test : Bool). cond test (Some (position_or_len is_zero bytes)) None) there))
      | inr past ↦
          let before : at < position_or_len is_zero bytes = omega (arith, within, ltb-false _ _ past) in
          let other : not (is_zero (get_or bytes at 0)) ≡ true = prefix_len_passes (λ b. not (is_zero b)) bytes at 0 before in
          absurd (true≢false (sym other ∙ ap (λ (b : ℕ). not (is_zero b)) zero))
    ]

-- ---- the end of names

module _ (strings : List ℕ) (end : ℕ) (ends : EndsNames strings end) where
  -- a zero byte after an offset stands before the end
  before_end : (strx at : ℕ) → position is_zero (drop strx strings) ≡ Some at → strx < end
  before_end strx at first =
      let told = position-Some is_zero (drop strx strings) at 0 first in
      let zero : get_or strings (strx + at) 0 ≡ 0 = sym (get_or-drop strx strings at 0) ∙ eqb-true _ _ told.1 in
      elim (cases_Bool (nat_lt strx end)) [
        | inl before ↦ ltb-true strx end before
        | inr behind ↦ absurd (ends.none_behind (strx + at) (omega (arith, ltb-false _ _ behind)) (omega (arith, told.0, length-drop strx strings)) zero)
      ]

  -- where none is after an offset, the offset is not before the end
  behind_end : (strx : ℕ) → position is_zero (drop strx strings) ≡ None → end ≤ strx
  behind_end strx none =
      elim (cases_Bool (nat_lt strx end)) [
        | inl before ↦
            let less : strx < end = ltb-true strx end before in
            let at = end - 1 - strx in
            let place : strx + at ≡ end - 1 = omega (arith, less) in
            let zero : get_or (drop strx strings) at 0 ≡ 0 = get_or-drop strx strings at 0 ∙ ap (λ (k : ℕ). get_or strings k 0) place ∙ ends.last (omega (arith, less)) in
            absurd (nowhere (drop strx strings) at none (omega (arith, less, ends.within, length-drop strx strings)) zero)
        | inr behind ↦ ltb-false _ _ behind
      ]

  -- the fault of a name's end, by where the first zero byte after it is
  fault_by : (strx place : ℕ) (found : Option ℕ) → position is_zero (drop strx strings) ≡ found → end_fault place found ≡ fault_unless (nat_lt strx end) NO_END place
  fault_by strx place None none = rw (le-ltb strx end (behind_end strx none)) refl
  fault_by strx place (Some at) first = rw (lt-ltb strx end (before_end strx at first)) refl

  -- the fault of a name's end, by the end of names
  pub end_fault-position : (strx place : ℕ) → end_fault place (position is_zero (drop strx strings)) ≡ fault_unless (nat_lt strx end) NO_END place
  end_fault-position strx place = fault_by strx place (position is_zero (drop strx strings)) refl
