-- The name that a string table has at an offset holds no zero byte.
use Rattle.std.proofs.Common.{◌≡◌, ℕ, Bool, true, false, List, [], length, take, drop, get_or, refl, ap, ◌∙◌, arith}
use Rattle.std.specs.Prelude.{All, Option, Some, None, if◌then◌else◌, ◌&&◌, ◌==◌, nat_le, nat_lt, position, option_map, cond}
use Rattle.std.specs.List.{position_or_len}
use Rattle.std.proofs.lemmas.Bool.{le-ltb}
use Rattle.std.proofs.lemmas.List.{length-take-le, get_or-take}
use Rattle.std.proofs.lemmas.List.Elements.{All-map}
use Rattle.std.proofs.lemmas.List.Quantifiers.{position-Some}
use Rattle.std.proofs.lemmas.List.Sums.{position_or_len_is}
use Rattle.nlist_codec.specs.declared.entry.Entry.{Entry}
use Rattle.strtab.specs.StringTable.{HasNoZero, is_zero, name_in}
use Rattle.aout_object.specs.Objects.{all_named, name_of, named_entry}
use Rattle.aout_object.specs.Making.{HasWholeName}

-- what stands before the first zero byte holds none
HasNoZero-take : (bytes : List ℕ) (at : ℕ) → position is_zero bytes ≡ Some at → HasNoZero (take at bytes)
HasNoZero-take bytes at first =
    let front : List ℕ = take at bytes in
    let told = position-Some is_zero bytes at 0 first in
    let size : length front ≡ at = length-take-le at bytes (omega (arith, told.0)) in
    let none : position_or_len is_zero front ≡ length front =
    position_or_len_is is_zero front (length front) 0 (omega arith)
    (λ k before. ap is_zero (get_or-take at bytes k 0 (omega (arith, before, size))) ∙ told.2 k (omega (arith, before, size)))
    (λ within. absurd (omega (arith, within))) in
    ap (λ (test : Bool). cond test (Some (position_or_len is_zero front)) None) (le-ltb (position_or_len is_zero front) (length front) (omega (arith, none)))

-- nor does a name, by what the tests of its offset say
whole_by : (none within : Bool) (bytes : List ℕ) (end : Option ℕ) → position is_zero bytes ≡ end
    → HasNoZero (name_of (if none then Some [] else (if within then option_map (λ at. take at bytes) end else None)))
whole_by true within bytes end first = refl
whole_by false false bytes end first = refl
whole_by false true bytes None first = refl
whole_by false true bytes (Some at) first = HasNoZero-take bytes at first

-- the name at an offset holds none
HasNoZero-name_in : (strings : List ℕ) (strx : ℕ) → HasNoZero (name_of (name_in strings strx))
HasNoZero-name_in strings strx = whole_by (strx == 0) (nat_le 4 strx && nat_lt strx (length strings)) (drop strx strings) (position is_zero (drop strx strings)) refl

-- no name of an entry does
pub names-whole : (strings : List ℕ) (entries : List Entry) → All HasWholeName (all_named strings entries)
names-whole strings entries = All-map HasWholeName (named_entry strings) entries (λ k d within. HasNoZero-name_in strings (get_or entries k d).strx)
