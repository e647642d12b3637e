-- Tables of two lists of objects put together.
use Rattle.std.proofs.Common.{◌≡◌, ℕ, ◌+◌, ◌*◌, ◌/◌, ◌%◌, ◌^◌, ◌≤◌, List, [], ◌∷◌, ◌++◌, length, map, Option, Some, None, refl, sym, ap, ◌∙◌, arith, append_assoc, append-nil}
use Rattle.std.specs.List.{sum_by}
use Rattle.std.proofs.lemmas.List.{map-append}
use Rattle.std.proofs.lemmas.List.Sums.{sum_by-append, sum_by-cons}
use Rattle.st_base.specs.declared.fault.Fault.{Fault}
use Rattle.nlist_codec.specs.declared.named.Named.{Named}
use Rattle.aout_object.specs.Decoding.{fault_or}
use Rattle.aout_link.specs.Groups.{both_moves, InGroups, AreWords, MovesAtOnce}
use Rattle.st_base.specs.Multiples.{aligned}
use Rattle.aout_link.specs.Moves.{fronts, moves_between, starts_behind, moves_after, text_size, data_size, bss_size, totals_of, starts_of, moved, moves_of}
use Rattle.aout_link.specs.Placing.{placed_entry, placed_all, text_part, data_part, texts, datas}
use Rattle.aout_link.specs.Refusals.{twice_fault, twice_in, undefined_fault, undefined_in, object_fault, relocs_in}
use Rattle.aout_link.specs.Sources.{Source}
use Rattle.aout_link.specs.NameTables.{entries_of, move_with, moved_entry, moved_all}
use Rattle.aout_link.specs.declared.moves.Moves.{Moves}
use Rattle.aout_link.specs.declared.moves.Starts.{Starts}
use Rattle.aout_link.specs.declared.definitions.Known.{Known}
use Rattle.stab_codes.specs.declared.segment.Segment.{Segment}
use Rattle.stab_codes.specs.declared.segment.Segment.TheVariants.{Still, Text, Datum, Bss}
use Rattle.stab_codes.specs.Segments.{segment_of}
use Rattle.aout_link.proofs.FrontLemmas.{fronts-append}

-- how three faults are taken together does not matter
or_assoc : (a b c : Option Fault) → fault_or a (fault_or b c) ≡ fault_or (fault_or a b) c
or_assoc None b c = refl
or_assoc (Some f) b c = refl

-- a table with a part for each object
module _ {X : Type 0} (part : Moves → Source → List X) where
  abbrev tabled : List Moves → List Source → List X
  tabled (m ∷ ms) (o ∷ os) = part m o ++ tabled ms os
  tabled ms os = []

  tabled-append : (ms ns : List Moves) (xs ys : List Source) → length ms ≡ length xs → tabled (ms ++ ns) (xs ++ ys) ≡ tabled ms xs ++ tabled ns ys
  tabled-append [] ns [] ys same = refl
  tabled-append [] ns (x ∷ xs) ys same = absurd (omega arith)
  tabled-append (m ∷ ms) ns [] ys same = absurd (omega arith)
  tabled-append (m ∷ ms) ns (x ∷ xs) ys same =
      ap (λ (r : List X). part m x ++ r) (tabled-append ms ns xs ys (omega arith)) ∙ sym (append_assoc (part m x) (tabled ms xs) (tabled ns ys))

-- moved entries are such a table
moved_tabled : (ms : List Moves) (os : List Source) → moved_all ms os ≡ tabled (λ m o. map (moved_entry m) o.named) ms os
moved_tabled [] os = refl
moved_tabled (m ∷ ms) [] = refl
moved_tabled (m ∷ ms) (o ∷ os) = ap (λ (r : List Named). map (moved_entry m) o.named ++ r) (moved_tabled ms os)

module _ (table : List (List ℕ × Known)) where
  -- placed entries are
  placed_tabled : (ms : List Moves) (os : List Source) → placed_all table ms os ≡ tabled (λ m o. map (placed_entry table m) o.named) ms os
  placed_tabled [] os = refl
  placed_tabled (m ∷ ms) [] = refl
  placed_tabled (m ∷ ms) (o ∷ os) = ap (λ (r : List Named). map (placed_entry table m) o.named ++ r) (placed_tabled ms os)

  -- text is
  texts_tabled : (ms : List Moves) (os : List Source) → texts table ms os ≡ tabled (λ m o. text_part m (map (placed_entry table m) o.named) o) ms os
  texts_tabled [] os = refl
  texts_tabled (m ∷ ms) [] = refl
  texts_tabled (m ∷ ms) (o ∷ os) = ap (λ (r : List ℕ). text_part m (map (placed_entry table m) o.named) o ++ r) (texts_tabled ms os)

  -- data is
  datas_tabled : (ms : List Moves) (os : List Source) → datas table ms os ≡ tabled (λ m o. data_part m (map (placed_entry table m) o.named) o) ms os
  datas_tabled [] os = refl
  datas_tabled (m ∷ ms) [] = refl
  datas_tabled (m ∷ ms) (o ∷ os) = ap (λ (r : List ℕ). data_part m (map (placed_entry table m) o.named) o ++ r) (datas_tabled ms os)

  relocs-append : (k : ℕ) (ms ns : List Moves) (xs ys : List Source) → length ms ≡ length xs
      → relocs_in table k (ms ++ ns) (xs ++ ys) ≡ fault_or (relocs_in table k ms xs) (relocs_in table (k + length xs) ns ys)
  relocs-append k [] ns [] ys same = ap (λ (n : ℕ). relocs_in table n ns ys) (omega arith)
  relocs-append k [] ns (x ∷ xs) ys same = absurd (omega arith)
  relocs-append k (m ∷ ms) ns [] ys same = absurd (omega arith)
  relocs-append k (m ∷ ms) ns (x ∷ xs) ys same =
      ap (fault_or (object_fault k m (map (placed_entry table m) x.named) x)) (relocs-append (k + 1) ms ns xs ys (omega arith)
      ∙ ap (λ (n : ℕ). fault_or (relocs_in table (k + 1) ms xs) (relocs_in table n ns ys)) (omega arith))
      ∙ or_assoc (object_fault k m (map (placed_entry table m) x.named) x) (relocs_in table (k + 1) ms xs) (relocs_in table (k + length (x ∷ xs)) ns ys)

  undefined-append : (k : ℕ) (xs ys : List Source) → undefined_in table k (xs ++ ys) ≡ fault_or (undefined_in table k xs) (undefined_in table (k + length xs) ys)
  undefined-append k [] ys = ap (λ (n : ℕ). undefined_in table n ys) (omega arith)
  undefined-append k (x ∷ xs) ys =
      ap (fault_or (undefined_fault table k 0 x.named)) (undefined-append (k + 1) xs ys ∙ ap (λ (n : ℕ). fault_or (undefined_in table (k + 1) xs) (undefined_in table n ys)) (omega arith))
      ∙ or_assoc (undefined_fault table k 0 x.named) (undefined_in table (k + 1) xs) (undefined_in table (k + length (x ∷ xs)) ys)

twice-append : (before : List Named) (k : ℕ) (xs ys : List Source) → twice_in before k (xs ++ ys) ≡ fault_or (twice_in before k xs) (twice_in (before ++ entries_of xs) (k + length xs) ys)
twice-append before k [] ys = ap (λ (n : ℕ). twice_in before n ys) (omega arith) ∙ ap (λ (b : List Named). twice_in b (k + 0) ys) (sym (append-nil before))
twice-append before k (x ∷ xs) ys =
    ap (fault_or (twice_fault before k 0 x.named)) (twice-append (before ++ x.named) (k + 1) xs ys
    ∙ ap (λ (n : ℕ). fault_or (twice_in (before ++ x.named) (k + 1) xs) (twice_in ((before ++ x.named) ++ entries_of xs) n ys)) (omega arith)
    ∙ ap (λ (b : List Named). fault_or (twice_in (before ++ x.named) (k + 1) xs) (twice_in b (k + length (x ∷ xs)) ys)) (append_assoc before x.named (entries_of xs)))
    ∙ or_assoc (twice_fault before k 0 x.named) (twice_in (before ++ x.named) (k + 1) xs) (twice_in (before ++ entries_of (x ∷ xs)) (k + length (x ∷ xs)) ys)

-- all that is placed of two groups of objects
pub in_groups : (xs ys : List Source) → InGroups xs ys
in_groups xs ys = record {
  text = sum_by-append text_size xs ys;
  datum = sum_by-append data_size xs ys;
  bss = sum_by-append bss_size xs ys;
  moves = λ s before. ap (map (λ p. moves_of s p.0 p.1)) (fronts-append before xs ys) ∙ map-append (λ p. moves_of s p.0 p.1) (fronts before xs) (fronts (before ++ xs) ys);
  entries = λ ms ns same. moved_tabled (ms ++ ns) (xs ++ ys) ∙ tabled-append (λ m o. map (moved_entry m) o.named) ms ns xs ys same
      ∙ sym (ap (λ (r : List Named). r ++ moved_all ns ys) (moved_tabled ms xs) ∙ ap (λ (r : List Named). tabled (λ m o. map (moved_entry m) o.named) ms xs ++ r) (moved_tabled ns ys));
  placed = λ table ms ns same. placed_tabled table (ms ++ ns) (xs ++ ys) ∙ tabled-append (λ m o. map (placed_entry table m) o.named) ms ns xs ys same
      ∙ sym (ap (λ (r : List Named). r ++ placed_all table ns ys) (placed_tabled table ms xs) ∙ ap (λ (r : List Named). tabled (λ m o. map (placed_entry table m) o.named) ms xs ++ r) (placed_tabled table ns ys));
  texts = λ table ms ns same. texts_tabled table (ms ++ ns) (xs ++ ys) ∙ tabled-append (λ m o. text_part m (map (placed_entry table m) o.named) o) ms ns xs ys same
      ∙ sym (ap (λ (r : List ℕ). r ++ texts table ns ys) (texts_tabled table ms xs) ∙ ap (λ (r : List ℕ). tabled (λ m o. text_part m (map (placed_entry table m) o.named) o) ms xs ++ r) (texts_tabled table ns ys));
  datas = λ table ms ns same. datas_tabled table (ms ++ ns) (xs ++ ys) ∙ tabled-append (λ m o. data_part m (map (placed_entry table m) o.named) o) ms ns xs ys same
      ∙ sym (ap (λ (r : List ℕ). r ++ datas table ns ys) (datas_tabled table ms xs) ∙ ap (λ (r : List ℕ). tabled (λ m o. data_part m (map (placed_entry table m) o.named) o) ms xs ++ r) (datas_tabled table ns ys));
  relocs = λ table k ms ns same. relocs-append table k ms ns xs ys same;
  twice = λ before k. twice-append before k xs ys;
  undefined = λ table k. undefined-append table k xs ys;
}

-- ---- two moves are one

-- two moves one after the other are one
moved_twice : (old mid add new out : ℕ) → mid ≤ 2 ^ 32 → new ≡ out + add → (moved old (mid + add) + moved mid out) % 2 ^ 32 ≡ moved old new
moved_twice old mid add new out low e = omega arith

-- an object moves in its group and with it as it does at once
pub moves_at_once : (base : ℕ) (group : List Source) (s : Starts) (out before : List Source) (o : Source) → AreWords (starts_of base group) → MovesAtOnce base group s out before o
moves_at_once base group s out before o w =
    let st = starts_of base group in
    let t = sum_by-append text_size out before in
    let d = sum_by-append data_size out before in
    let b = sum_by-append bss_size out before in
    let text = moved_twice o.parts.entry st.text (sum_by text_size before) (s.text + sum_by text_size (out ++ before)) (s.text + sum_by text_size out) w.text (omega (arith, t)) in
    let datum = moved_twice (o.parts.entry + length o.parts.text) st.datum (sum_by data_size before) (s.datum + sum_by data_size (out ++ before)) (s.datum + sum_by data_size out) w.datum (omega (arith, d)) in
    let bss = moved_twice (o.parts.entry + length o.parts.text + length o.parts.data_part) st.bss (sum_by bss_size before) (s.bss + sum_by bss_size (out ++ before)) (s.bss + sum_by bss_size out) w.bss (omega (arith, b)) in
    rw (text, datum, bss) refl

-- ---- the sizes of a group are padded already

-- sizes that are padded add up to a multiple of 4
fours : (os : List Source) → (k : ℕ) × (sum_by text_size os ≡ k * 4)
fours [] = (0, refl)
fours (o ∷ os) =
    let rest = fours os in
    let s = sum_by-cons text_size o os in
    ((length o.parts.text + 3) / 4 + rest.0, let e = rest.1 in omega (arith, s, e))

-- a group is not padded again
pub padded_total : (os : List Source) → aligned (totals_of os).text ≡ (totals_of os).text
padded_total os = let f = fours os in let e = f.1 in omega (arith, e)

-- ---- entries moved twice

-- two sums modulo 2^32 are one
add_twice : (v a b : ℕ) → ((v + a) % 2 ^ 32 + b) % 2 ^ 32 ≡ (v + (a + b) % 2 ^ 32) % 2 ^ 32
add_twice v a b = omega arith

-- and what stands still stays
add_still : (v : ℕ) → ((v + 0) % 2 ^ 32 + 0) % 2 ^ 32 ≡ (v + 0) % 2 ^ 32
add_still v = omega arith

-- the same for each segment
segment_twice : (v : ℕ) (a b : Moves) (s : Segment) → ((v + move_with a s) % 2 ^ 32 + move_with b s) % 2 ^ 32 ≡ (v + move_with (both_moves a b) s) % 2 ^ 32
segment_twice v a b Still = add_still v
segment_twice v a b Text = add_twice v a.text b.text
segment_twice v a b Datum = add_twice v a.datum b.datum
segment_twice v a b Bss = add_twice v a.bss b.bss

-- an entry that moves twice
pub moved_again : (a b : Moves) (n : Named) → moved_entry b (moved_entry a n) ≡ moved_entry (both_moves a b) n
moved_again a b n = ap (λ (v : ℕ). record { kind = n.kind; other = n.other; desc = n.desc; value = v; name = n.name }) (segment_twice n.value a b (segment_of n.kind))

-- entries that move twice
own_again : (a b : Moves) (ns : List Named) → map (moved_entry b) (map (moved_entry a) ns) ≡ map (moved_entry (both_moves a b)) ns
own_again a b [] = refl
own_again a b (n ∷ ns) =
    ap (λ (x : Named). x ∷ map (moved_entry b) (map (moved_entry a) ns)) (moved_again a b n) ∙ ap (λ (r : List Named). moved_entry (both_moves a b) n ∷ r) (own_again a b ns)

-- the entries of a group, moved by themselves and then as one object, are those moved at once
pub entries_at_once : (base : ℕ) (group : List Source) (s : Starts) (out before os : List Source) → AreWords (starts_of base group)
    → map (moved_entry (moves_between (starts_of base group) (starts_behind s out))) (moved_all (moves_after (starts_of base group) before os) os) ≡ moved_all (moves_after s (out ++ before) os) os
entries_at_once base group s out before [] w = refl
entries_at_once base group s out before (o ∷ os) w =
    let far : Moves = moves_between (starts_of base group) (starts_behind s out) in
    let near : Moves = moves_of (starts_of base group) before o in
    let rest : List Named = moved_all (moves_after (starts_of base group) (before ++ o ∷ []) os) os in
    map-append (moved_entry far) (map (moved_entry near) o.named) rest
    ∙ ap (λ (x : List Named). x ++ map (moved_entry far) rest) (own_again near far o.named ∙ ap (λ (m : Moves). map (moved_entry m) o.named) (moves_at_once base group s out before o w))
    ∙ ap (λ (x : List Named). map (moved_entry (moves_of s (out ++ before) o)) o.named ++ x)
    (entries_at_once base group s out (before ++ o ∷ []) os w ∙ ap (λ (b : List Source). moved_all (moves_after s b os) os) (sym (append_assoc out before (o ∷ []))))
