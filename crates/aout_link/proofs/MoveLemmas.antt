-- Running addresses are the sums over the objects before.
use Rattle.std.proofs.Common.{◌≡◌, ℕ, ◌+◌, ◌%◌, ◌^◌, ◌<◌, List, [], ◌∷◌, ◌++◌, length, map, take, get_or, refl, sym, ap, subst, ◌∙◌, arith}
use Rattle.std.specs.List.{sum_by}
use Rattle.std.proofs.lemmas.List.{take_more, map-append}
use Rattle.std.proofs.lemmas.List.Sums.{sum_by_push}
use Rattle.aout_link.specs.Answering.{wrapped_behind}
use Rattle.aout_link.specs.Moves.{fronts, text_size, data_size, bss_size, starts_behind, starts_before, moved, moves_between, moves_of, moves_after}
use Rattle.aout_link.specs.Sources.{Source}
use Rattle.aout_link.specs.declared.moves.Moves.{Moves}
use Rattle.aout_link.specs.declared.moves.Starts.{Starts}
use Rattle.aout_link.proofs.FrontLemmas.{fronts_push}

-- addresses modulo 2^32
pub record IsWrapped (at full : Starts) : Type 0 where
  pub text : at.text ≡ full.text % 2 ^ 32
  pub datum : at.datum ≡ full.datum % 2 ^ 32
  pub bss : at.bss ≡ full.bss % 2 ^ 32

-- an address modulo 2^32 moves as the address does
pub moved-low : (old new : ℕ) → moved old (new % 2 ^ 32) ≡ moved old new
moved-low old new = omega arith

-- the same of an address that is told so
pub moved_by : (old at new : ℕ) → at ≡ new % 2 ^ 32 → moved old at ≡ moved old new
moved_by old at new e = ap (moved old) e ∙ moved-low old new

-- one object's moves
pub moves_step : (o : Source) (at full : Starts) → IsWrapped at full → moves_between (starts_before o) at ≡ moves_between (starts_before o) full
moves_step o at full w =
    let t = moved_by o.parts.entry at.text full.text w.text in
    let d = moved_by (o.parts.entry + length o.parts.text) at.datum full.datum w.datum in
    let b = moved_by (o.parts.entry + length o.parts.text + length o.parts.data_part) at.bss full.bss w.bss in
    rw (t, d, b) refl

-- sums modulo 2^32
add-low : (at full more total : ℕ) → at ≡ full % 2 ^ 32 → total ≡ full + more → (at + more % 2 ^ 32) % 2 ^ 32 ≡ total % 2 ^ 32
add-low at full more total e f = omega arith

-- one object further
pub wrapped_step : (s : Starts) (before : List Source) (o : Source) (at : Starts) → IsWrapped at (starts_behind s before)
    → IsWrapped (wrapped_behind at o) (starts_behind s (before ++ o ∷ []))
wrapped_step s before o at w =
    let t = sum_by_push text_size before o in
    let d = sum_by_push data_size before o in
    let b = sum_by_push bss_size before o in
    record {
      text = add-low at.text (s.text + sum_by text_size before) (text_size o) _ w.text (omega (arith, t));
      datum = add-low at.datum (s.datum + sum_by data_size before) (data_size o) _ w.datum (omega (arith, d));
      bss = add-low at.bss (s.bss + sum_by bss_size before) (bss_size o) _ w.bss (omega (arith, b));
    }

-- one object more
pub moves_after_push : (s : Starts) (os : List Source) (o : Source) → moves_after s [] (os ++ o ∷ []) ≡ moves_after s [] os ++ moves_of s os o ∷ []
moves_after_push s os o =
    ap (map (λ p. moves_of s p.0 p.1)) (fronts_push os o) ∙ map-append (λ p. moves_of s p.0 p.1) (fronts [] os) ((os, o) ∷ [])

-- the first items with one more
pub take_item : {A : Type 0} (xs : List A) (i : ℕ) (x : A) → i < length xs → x ≡ get_or xs i x → take (i + 1) xs ≡ take i xs ++ x ∷ []
take_item xs i x lt is = take_more xs i x lt ∙ ap (λ y. take i xs ++ y ∷ []) (sym is)

-- one object of a list further: its addresses
pub wrapped_more : (s : Starts) (os : List Source) (i : ℕ) (o : Source) (at next : Starts) → i < length os → o ≡ get_or os i o
    → IsWrapped at (starts_behind s (take i os)) → next ≡ wrapped_behind at o → IsWrapped next (starts_behind s (take (i + 1) os))
wrapped_more s os i o at next lt is w e =
    let h : IsWrapped next (starts_behind s (take i os ++ o ∷ [])) = subst (λ (a : Starts). IsWrapped a (starts_behind s (take i os ++ o ∷ []))) (sym e) (wrapped_step s (take i os) o at w) in
    subst (λ (b : List Source). IsWrapped next (starts_behind s b)) (sym (take_item os i o lt is)) h

-- and its moves
pub moves_more : (s : Starts) (os : List Source) (i : ℕ) (o : Source) (at : Starts) (m : Moves) (all next : List Moves) → i < length os → o ≡ get_or os i o
    → IsWrapped at (starts_behind s (take i os)) → m ≡ moves_between (starts_before o) at → all ≡ moves_after s [] (take i os) → next ≡ all ++ m ∷ []
    → next ≡ moves_after s [] (take (i + 1) os)
moves_more s os i o at m all next lt is w e f g =
    g ∙ ap (λ (a : List Moves). a ++ m ∷ []) f ∙ ap (λ (n : Moves). moves_after s [] (take i os) ++ n ∷ []) (e ∙ moves_step o at (starts_behind s (take i os)) w)
    ∙ sym (moves_after_push s (take i os) o) ∙ ap (moves_after s []) (sym (take_item os i o lt is))
