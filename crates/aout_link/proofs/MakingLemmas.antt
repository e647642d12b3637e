-- What placing keeps: lengths of segments, kinds and names of entries. So what is placed of objects can be made into one.
use Rattle.std.proofs.Common.{◌≡◌, ℕ, ◌+◌, ◌-◌, ◌≤◌, Bool, true, false, cond, List, [], ◌∷◌, ◌++◌, length, map, take, drop, Option, Some, None, refl, sym, ap, subst, ◌∙◌, arith}
use Rattle.std.specs.Prelude.{nat_le, ◌==◌, unwrap_or}
use Rattle.std.specs.List.{sum_by}
use Rattle.std.proofs.lemmas.Bool.{leb-true}
use Rattle.std.proofs.lemmas.List.{length-append, length-drop, length-take-le, length-replicate, map-append}
use Rattle.std.proofs.lemmas.List.Sums.{sum_by-cons}
use Rattle.std.specs.Prelude.{◌≢◌, slice_get, All, IfOk, Result, Ok, Err}
use Rattle.std.specs.Option.{option_map}
use Rattle.std.proofs.lemmas.Bool.{le-leb}
use Rattle.std.proofs.lemmas.List.Elements.{recursion_from_All}
use Rattle.st_base.specs.Faults.{fault_at}
use Rattle.st_base.specs.declared.fault.TheConstants.{KIND}
use Rattle.st_base.specs.declared.fault.Refused.{Refused}
use Rattle.strtab.specs.StringTable.{HasNoZero}
use Rattle.aout_layout.specs.declared.header.TheConstants.{TWO_ORDERS}
use Rattle.aout_object.specs.declared.parts.Parts.{Parts}
use Rattle.aout_object.specs.Objects.{Contents}
use Rattle.aout_object.specs.Decoding.{Answers}
use Rattle.aout_object.specs.Making.{HasWholeName, kinds_checks, make_checks, made}
use Rattle.aout_object.proofs.MakeLemmas.{make-size}
use Rattle.header_merge.proofs.FrontLemmas.{all_append}
use Rattle.aout_link.specs.ImageMaking.{parts_of, image_of, size_fault}
use Rattle.aout_link.specs.Sources.{IsLawful}
use Rattle.aout_link.specs.NameTables.{names_of}
use Rattle.aout_link.specs.Refusals.{PlacesTo}
use Rattle.st_base.proofs.BytesLemmas.{length-bytes_of}
use Rattle.st_base.specs.Number.{with_number_at, bytes_of}
use Rattle.st_base.specs.Faults.{Check, first_fault}
use Rattle.st_base.specs.declared.fault.Fault.{Fault}
use Rattle.st_base.specs.declared.fault.TheConstants.{OUTSIDE, SYMBOL, OVERFLOW}
use Rattle.nlist_codec.specs.declared.named.Named.{Named}
use Rattle.reloc.specs.declared.reloc.Reloc.{Reloc}
use Rattle.reloc.specs.Sums.{bytes_in, bits_in, sum_fits, field_sum, applied}
use Rattle.aout_object.specs.Decoding.{fault_or}
use Rattle.aout_object.specs.Objects.{is_accepted_kind}
use Rattle.aout_link.specs.ImageMaking.{CanBeMade}
use Rattle.st_base.specs.Multiples.{aligned}
use Rattle.aout_link.specs.Moves.{text_size, data_size, totals_of, all_moves}
use Rattle.aout_link.specs.Placing.{Frame, text_frame, data_frame, IsPlaced, placed_entry, placed_all, amount, relocated, zeros_for, text_part, data_part, texts, datas}
use Rattle.aout_link.specs.Refusals.{fault_in, twice_in, empty_fault, order_fault, machine_fault, address_fault, list_fault, undefined_in, check_in, is_lawful, reloc_checks, relocs_fault, text_fault, data_fault, object_fault, relocs_in}
use Rattle.aout_link.specs.Sources.{Source, HasAcceptedKind}
use Rattle.aout_link.specs.NameTables.{known_by, common_sizes, commons_total, names_table, entries_of, moved_value}
use Rattle.aout_link.specs.declared.moves.Moves.{Moves}
use Rattle.aout_link.specs.declared.definitions.Known.{Known}
use Rattle.std.specs.List.{AllByRecursion}
use Rattle.st_base.specs.declared.fault.TheConstants.{TOO_LARGE}
use Rattle.aout_link.specs.declared.moves.Totals.{Totals}
use Rattle.aout_link.specs.declared.placed.Placed.{Placed}
use Rattle.st_base.specs.declared.sizes.TheConstants.{GREATEST_ADDRESS}
use Rattle.aout_link.proofs.KnownLemmas.{HasKind, found_kind, table_kinds}
use Rattle.aout_link.proofs.PlacedLemmas.{length-all_moves}

-- ---- lengths

-- a number put into bytes leaves their length
pub length-set : (big : Bool) (bytes : List ℕ) (at size value : ℕ) → at + size ≤ length bytes → length (with_number_at big bytes at size value) ≡ length bytes
length-set big bytes at size value within =
    let front = length-take-le at bytes (omega arith) in
    let field = length-bytes_of big size value in
    let back = length-drop (at + size) bytes in
    let inner = length-append (bytes_of big size value) (drop (at + size) bytes) in
    length-append (take at bytes) (bytes_of big size value ++ drop (at + size) bytes) ∙ omega (arith, front, field, back, inner)

-- where two faults in a row are none, the first is
or_none_left : (a b : Option Fault) → fault_or a b ≡ None → a ≡ None
or_none_left None b e = refl
or_none_left (Some f) b e = absurd (let h : Some f ≡ None = e in cc)

-- and the second is
or_none_right : (a b : Option Fault) → fault_or a b ≡ None → b ≡ None
or_none_right None b e = e
or_none_right (Some f) b e = absurd (let h : Some f ≡ None = e in cc)

-- where checks have no fault, the first holds
first_holds : (holds : Bool) (number k i : ℕ) (cs : List Check) → first_fault (check_in holds number k i ∷ cs) ≡ None → holds ≡ true
first_holds true number k i cs h = refl
first_holds false number k i cs h = absurd (let z : Some (fault_in number k i) ≡ None = h in cc)

-- relocations leave the length of a segment
length-relocated : (big : Bool) (k i : ℕ) (f : Frame) (segment : List ℕ) (rs : List Reloc)
    → relocs_fault big k i f segment rs ≡ None → length (relocated big f segment rs) ≡ length segment
length-relocated big k i f segment [] e = refl
length-relocated big k i f segment (r ∷ rs) e =
    let this = or_none_left (first_fault (reloc_checks big k i f segment r)) _ e in
    let rest = or_none_right (first_fault (reloc_checks big k i f segment r)) _ e in
    let within = leb-true (r.address + bytes_in r.length) (length segment) (first_holds (nat_le (r.address + bytes_in r.length) (length segment)) OUTSIDE k i
    (check_in (is_lawful f.named r) SYMBOL k i ∷ check_in (sum_fits (bits_in r.length) (field_sum big segment r (amount f r))) OVERFLOW k i ∷ []) this) in
    length-relocated big k (i + 1) f (applied big segment r (amount f r)) rs rest
    ∙ length-set big segment r.address (bytes_in r.length) _ within

-- a padded size is no smaller
padded-le : (n : ℕ) → n ≤ aligned n
padded-le n = omega arith

-- a part of the image has its padded size
length-part : (bytes : List ℕ) (size : ℕ) → length bytes ≡ size → length (bytes ++ zeros_for size) ≡ aligned size
length-part bytes size e =
    let zeros = length-replicate {A = ℕ} (aligned size - size) 0 in
    let low = padded-le size in
    length-append bytes (zeros_for size) ∙ omega (arith, zeros, low, e)

-- the text of an object in the image
length-text_part : (k : ℕ) (m : Moves) (placed : List Named) (o : Source) → text_fault k m placed o ≡ None → length (text_part m placed o) ≡ text_size o
length-text_part k m placed o e = length-part _ (length o.parts.text) (length-relocated _ k 0 (text_frame m placed o) o.parts.text o.parts.text_relocs e)

-- its data
length-data_part : (k : ℕ) (m : Moves) (placed : List Named) (o : Source) → data_fault k m placed o ≡ None → length (data_part m placed o) ≡ data_size o
length-data_part k m placed o e = length-part _ (length o.parts.data_part) (length-relocated _ k (length o.parts.text_relocs) (data_frame m placed o) o.parts.data_part o.parts.data_relocs e)

module _ (table : List (List ℕ × Known)) where
  -- the text of all objects has their padded sizes together
  pub length-texts : (k : ℕ) (ms : List Moves) (os : List Source) → length ms ≡ length os → relocs_in table k ms os ≡ None → length (texts table ms os) ≡ sum_by text_size os
  length-texts k [] [] same e = refl
  length-texts k [] (o ∷ os) same e = absurd (omega arith)
  length-texts k (m ∷ ms) [] same e = absurd (omega arith)
  length-texts k (m ∷ ms) (o ∷ os) same e =
      let this = or_none_left (object_fault k m (map (placed_entry table m) o.named) o) _ e in
      let part = length-text_part k m (map (placed_entry table m) o.named) o (or_none_left (text_fault k m (map (placed_entry table m) o.named) o) _ this) in
      let rest = length-texts (k + 1) ms os (omega arith) (or_none_right (object_fault k m (map (placed_entry table m) o.named) o) _ e) in
      length-append (text_part m (map (placed_entry table m) o.named) o) (texts table ms os) ∙ (let s = sum_by-cons text_size o os in omega (arith, part, rest, s))

  -- so has their data
  pub length-datas : (k : ℕ) (ms : List Moves) (os : List Source) → length ms ≡ length os → relocs_in table k ms os ≡ None → length (datas table ms os) ≡ sum_by data_size os
  length-datas k [] [] same e = refl
  length-datas k [] (o ∷ os) same e = absurd (omega arith)
  length-datas k (m ∷ ms) [] same e = absurd (omega arith)
  length-datas k (m ∷ ms) (o ∷ os) same e =
      let this = or_none_left (object_fault k m (map (placed_entry table m) o.named) o) _ e in
      let part = length-data_part k m (map (placed_entry table m) o.named) o (or_none_right (text_fault k m (map (placed_entry table m) o.named) o) _ this) in
      let rest = length-datas (k + 1) ms os (omega arith) (or_none_right (object_fault k m (map (placed_entry table m) o.named) o) _ e) in
      length-append (data_part m (map (placed_entry table m) o.named) o) (datas table ms os) ∙ (let s = sum_by-cons data_size o os in omega (arith, part, rest, s))

  -- ---- names stay
  names-own : (m : Moves) (ns : List Named) → map (λ n. n.name) (map (placed_entry table m) ns) ≡ map (λ n. n.name) ns
  names-own m [] = refl
  names-own m (n ∷ ns) = ap (λ (r : List (List ℕ)). n.name ∷ r) (names-own m ns)

  -- all names stay
  pub names-kept : (ms : List Moves) (os : List Source) → length ms ≡ length os → map (λ n. n.name) (placed_all table ms os) ≡ map (λ n. n.name) (entries_of os)
  names-kept [] [] same = refl
  names-kept [] (o ∷ os) same = absurd (omega arith)
  names-kept (m ∷ ms) [] same = absurd (omega arith)
  names-kept (m ∷ ms) (o ∷ os) same =
      map-append (λ n. n.name) (map (placed_entry table m) o.named) (placed_all table ms os)
      ∙ ap (λ (x : List (List ℕ)). x ++ map (λ n. n.name) (placed_all table ms os)) (names-own m o.named)
      ∙ ap (λ (x : List (List ℕ)). map (λ n. n.name) o.named ++ x) (names-kept ms os (omega arith))
      ∙ sym (map-append (λ n. n.name) o.named (entries_of os))

-- ---- kinds stay accepted

-- an accepted kind
abbrev IsAcceptedKind : ℕ → Type 0
IsAcceptedKind kind = is_accepted_kind kind ≡ true

-- what holds of all items of two lists together holds of those of the first
all_front : {A : Type 0} (P : A → Type 0) (xs ys : List A) → AllByRecursion P (xs ++ ys) → AllByRecursion P xs
all_front P [] ys a = tt
all_front P (x ∷ xs) ys a = (a.0, all_front P xs ys a.1)

-- and of the second
all_behind : {A : Type 0} (P : A → Type 0) (xs ys : List A) → AllByRecursion P (xs ++ ys) → AllByRecursion P ys
all_behind P [] ys a = a
all_behind P (x ∷ xs) ys a = all_behind P xs ys a.1

-- all that names stand for has an accepted kind
table_accepted : (base : ℕ) (os : List Source) → AllByRecursion (HasKind IsAcceptedKind) (names_table base os)
table_accepted base os = table_kinds IsAcceptedKind refl refl refl refl base os

-- a placed entry has one
placed_accepted : (table : List (List ℕ × Known)) (m : Moves) (n : Named) → AllByRecursion (HasKind IsAcceptedKind) table → HasAcceptedKind n → HasAcceptedKind (placed_entry table m n)
placed_accepted table m n a h = by (n.kind == 1)
  where
    by : (b : Bool) → is_accepted_kind (cond b (unwrap_or (known_by n.name table) (record { kind = n.kind; value = n.value })) (record { kind = n.kind; value = moved_value m n })).kind ≡ true
    by true = found_kind IsAcceptedKind table n.name (record { kind = n.kind; value = n.value }) a h
    by false = h

-- so have those of an object
own_accepted : (table : List (List ℕ × Known)) (m : Moves) (ns : List Named) → AllByRecursion (HasKind IsAcceptedKind) table → AllByRecursion HasAcceptedKind ns → AllByRecursion HasAcceptedKind (map (placed_entry table m) ns)
own_accepted table m [] a h = tt
own_accepted table m (n ∷ ns) a h = (placed_accepted table m n a h.0, own_accepted table m ns a h.1)

-- and those of all objects
all_accepted : (table : List (List ℕ × Known)) (ms : List Moves) (os : List Source) → AllByRecursion (HasKind IsAcceptedKind) table → AllByRecursion HasAcceptedKind (entries_of os)
    → AllByRecursion HasAcceptedKind (placed_all table ms os)
all_accepted table [] os a h = tt
all_accepted table (m ∷ ms) [] a h = tt
all_accepted table (m ∷ ms) (o ∷ os) a h =
    all_append HasAcceptedKind (map (placed_entry table m) o.named) (placed_all table ms os) (own_accepted table m o.named a (all_front HasAcceptedKind o.named (entries_of os) h))
    (all_accepted table ms os a (all_behind HasAcceptedKind o.named (entries_of os) h))

-- ---- what is lawful of each object

-- the entries of lawful objects have whole names
names_lawful : (os : List Source) → AllByRecursion IsLawful os → AllByRecursion HasWholeName (entries_of os)
names_lawful [] h = tt
names_lawful (o ∷ os) h = all_append HasWholeName o.named (entries_of os) h.0.names (names_lawful os h.1)

-- and accepted kinds
kinds_lawful : (os : List Source) → AllByRecursion IsLawful os → AllByRecursion HasAcceptedKind (entries_of os)
kinds_lawful [] h = tt
kinds_lawful (o ∷ os) h = all_append HasAcceptedKind o.named (entries_of os) h.0.kinds (kinds_lawful os h.1)

-- whole names are told by the names alone
whole_to : (ns : List Named) → AllByRecursion HasWholeName ns → AllByRecursion HasNoZero (names_of ns)
whole_to [] h = tt
whole_to (n ∷ ns) h = (h.0, whole_to ns h.1)

-- and the other way round
whole_from : (ns : List Named) → AllByRecursion HasNoZero (names_of ns) → AllByRecursion HasWholeName ns
whole_from [] h = tt
whole_from (n ∷ ns) h = (h.0, whole_from ns h.1)

-- the machine word is that of a lawful object
machine_at : (os : List Source) (machine : ℕ) → option_map (λ o. o.parts.machine) (slice_get os 0) ≡ Some machine → AllByRecursion IsLawful os → machine ≢ TWO_ORDERS
machine_at [] machine e h = absurd (let k : None ≡ Some machine = e in cc)
machine_at (o ∷ os) machine e h = let same : o.parts.machine ≡ machine = cc in subst (λ (m : ℕ). m ≢ TWO_ORDERS) same h.0.machine

-- ---- the whole

-- where the end of bss has no fault, it is an address
within : (n : ℕ) → cond (nat_le n GREATEST_ADDRESS) None (Some (fault_at TOO_LARGE GREATEST_ADDRESS)) ≡ None → n ≤ 4294967295
within n h = by (nat_le n GREATEST_ADDRESS) refl h
  where
    by : (b : Bool) → nat_le n GREATEST_ADDRESS ≡ b → cond b None (Some (fault_at TOO_LARGE GREATEST_ADDRESS)) ≡ None → n ≤ 4294967295
    by true is g = leb-true n GREATEST_ADDRESS is
    by false is g = absurd (let z : Some (fault_at TOO_LARGE GREATEST_ADDRESS) ≡ None = g in cc)

-- what is placed of lawful objects without a fault can be made into an object
pub can_be_made : (base : ℕ) (os : List Source) (p : Placed) → AllByRecursion IsLawful os → list_fault base os ≡ None → IsPlaced base os p → CanBeMade p
can_be_made base os p lawful e placed =
    let same = length-all_moves base os in
    let placing = or_none_right (machine_fault os) _ (or_none_right (order_fault os) _ (or_none_right (empty_fault os) _ e)) in
    let behind = or_none_right (undefined_in (names_table base os) 0 os) _ (or_none_right (twice_in [] 0 os) _ placing) in
    let address = within (end_of base (totals_of os) (commons_total (common_sizes os))) (or_none_left (address_fault base os) _ behind) in
    let relocs = or_none_right (address_fault base os) _ behind in
    let text = ap (λ (x : List ℕ). length x) placed.text ∙ length-texts (names_table base os) 0 (all_moves base os) os same relocs in
    let datum = ap (λ (x : List ℕ). length x) placed.data_part ∙ length-datas (names_table base os) 0 (all_moves base os) os same relocs in
    let names : names_of p.named ≡ names_of (entries_of os) = ap (map (λ n. n.name)) placed.named ∙ names-kept (names_table base os) (all_moves base os) os same in
    let entry = placed.entry in
    let bss = placed.bss in
    record {
      names = whole_from p.named (subst (AllByRecursion HasNoZero) (sym names) (whole_to (entries_of os) (names_lawful os lawful)));
      kinds = subst (AllByRecursion HasAcceptedKind) (sym placed.named)
          (all_accepted (names_table base os) (all_moves base os) os (table_accepted base os) (kinds_lawful os lawful));
      addresses = omega (arith, address, text, datum, entry, bss);
      machine = machine_at os p.machine placed.machine lawful;
    }
  where
    end_of : ℕ → Totals → ℕ → ℕ
    end_of b t commons = b + t.text + t.datum + (t.bss + commons)

-- of what a call answers
pub makeable : (base : ℕ) (os : List Source) (r : Result Placed Refused) → All IsLawful os → PlacesTo (list_fault base os) base os r → IfOk r CanBeMade
makeable base os (Ok p) lawful h = can_be_made base os p (recursion_from_All IsLawful os lawful) h.0 h.1
makeable base os (Err why) lawful h = tt

-- ---- the image

-- accepted kinds have no fault
pub no_kind_fault : (place : ℕ) (ns : List Named) → AllByRecursion HasAcceptedKind ns → first_fault (kinds_checks place ns) ≡ None
no_kind_fault place [] h = refl
no_kind_fault place (n ∷ ns) h = ap (λ (b : Bool). cond b (first_fault (kinds_checks (place + 1) ns)) (Some (fault_at KIND place))) h.0 ∙ no_kind_fault (place + 1) ns h.1

-- the only fault that is left is that of the size
pub only_size : (p : Placed) → CanBeMade p → first_fault (make_checks (parts_of p) p.named) ≡ size_fault p
only_size p can =
    make-size (parts_of p) p.named (no_kind_fault 0 p.named can.kinds)
    (ap (λ (b : Bool). cond b None (Some (fault_at TOO_LARGE GREATEST_ADDRESS))) (le-leb _ GREATEST_ADDRESS can.addresses))

-- the parts with these relocations
abbrev parts_with : Placed → List Reloc → List Reloc → Parts
parts_with p a b = record { order = p.order; machine = p.machine; bss = p.bss; entry = p.entry; text = p.text; data_part = p.data_part; text_relocs = a; data_relocs = b }

-- what making the object answers
pub image_answered : (p : Placed) (a b : List Reloc) (r : Result Contents Refused) → CanBeMade p → a ≡ [] → b ≡ []
    → Answers r (first_fault (make_checks (parts_with p a b) p.named)) (made (parts_with p a b) p.named) → Answers r (size_fault p) (image_of p)
image_answered p a b r can e f h =
    let K : List Reloc → Type 0 = λ x. Answers r (first_fault (make_checks (parts_with p x b) p.named)) (made (parts_with p x b) p.named) in
    let L : List Reloc → Type 0 = λ x. Answers r (first_fault (make_checks (parts_with p [] x) p.named)) (made (parts_with p [] x) p.named) in
    subst (λ (o : Option Fault). Answers r o (image_of p)) (only_size p can) (subst L f (subst K e h))
