-- Worked values of the definitions: small texts, worked by hand.
use Rattle.std.proofs.Common.{◌≡◌, ◌≤◌, ℕ, zero, suc, List, [], ◌∷◌, Ok, Err, true, false, length, get_or, refl, ap, lit≤, lit<, arith}
use Rattle.readers.specs.declared.fault.TextFault.{TextFault}
use Rattle.readers.specs.declared.fault.TextFault.TheVariants as fault
use Rattle.readers.specs.declared.fault.Unread.TheVariants as unread
use Rattle.readers.specs.declared.stop.Refusal.TheVariants as refusal
use Rattle.readers.specs.declared.stop.Stop.TheVariants.{Bad, End}
use Rattle.readers.specs.declared.stop.Stop.TheVariants as stop
use Rattle.readers.specs.Spelling.{Form, Begun, Within, Spells, ended, all_of, none, deeper, inner, tail}
use Rattle.readers.specs.Readers.{byte_at, closed, many, whole_of}
use Rattle.readers.specs.Words.{number_at, digits_on, name_at, not_in_name, run_at, run_on, is_digit, is_digits, is_name}
use Rattle.readers.specs.TextFaults.{TooDeep, BadByte, TooShort, HasFault, IsFirstFault, place_of, placed, told, LeavesWithin}

-- ---- readers

-- `12,` at most 20: the number, and then the comma is left
number_of_two_digits : number_at 20 (49 ∷ 50 ∷ 44 ∷ []) ≡ Ok (12, 44 ∷ [])
unfolding number_at digits_on
number_of_two_digits = refl

-- `21` at most 20: the second digit is left
number_at_its_limit : number_at 20 (50 ∷ 49 ∷ []) ≡ Ok (2, 49 ∷ [])
unfolding number_at digits_on
number_at_its_limit = refl

-- `07`: a leading zero is the whole number
leading_zero : number_at 20 (48 ∷ 55 ∷ []) ≡ Ok (0, 55 ∷ [])
unfolding number_at digits_on
leading_zero = refl

-- `ab:c` is the name `ab`
name_of_two : name_at (not_in_name 0) 58 (97 ∷ 98 ∷ 58 ∷ 99 ∷ []) ≡ Ok (97 ∷ 98 ∷ [], 99 ∷ [])
unfolding name_at
name_of_two = refl

-- `a;b:` where `;` is barred: three bytes are left
name_with_a_barred_byte : name_at (not_in_name 59) 58 (97 ∷ 59 ∷ 98 ∷ 58 ∷ []) ≡ Err (Bad 3)
unfolding name_at
name_with_a_barred_byte = refl

-- `007x` is a run of three digits
run_of_three : run_at is_digit 39 (48 ∷ 48 ∷ 55 ∷ 120 ∷ []) ≡ Ok (48 ∷ 48 ∷ 55 ∷ [], 120 ∷ [])
unfolding run_at run_on
run_of_three = refl

-- `aab`: two items `a`, and then `b`
two_items : many 98 (byte_at 97) (97 ∷ 97 ∷ 98 ∷ []) ≡ Ok (tt ∷ tt ∷ [], [])
two_items = refl

-- `ac` is wrong at the place 1
wrong_at_1 : whole_of (closed (byte_at 97) 98) (97 ∷ 99 ∷ []) ≡ Err (Bad 1)
wrong_at_1 = refl

-- ---- bytes and names

-- `9` is a digit, and `:`, which comes next, is none
digit : is_digit 57 ≡ true
digit = refl

no_digit : is_digit 58 ≡ false
no_digit = refl

-- `;` is in no name where it is barred, and `a` may be
barred : not_in_name 59 59 ≡ true
barred = refl

not_barred : not_in_name 59 97 ≡ false
not_barred = refl

-- `12` is 1 to 2 digits, and `123` and no digits are not
two_digits : is_digits 2 (49 ∷ 50 ∷ []) ≡ true
two_digits = refl

three_digits : is_digits 2 (49 ∷ 50 ∷ 51 ∷ []) ≡ false
three_digits = refl

no_digits : is_digits 2 [] ≡ false
no_digits = refl

-- `a;` is a name up to `:`
name : is_name (not_in_name 0) 58 (97 ∷ 59 ∷ []) ≡ true
name = refl

-- a name that holds its end is no name
no_name : is_name (not_in_name 0) 58 (97 ∷ 58 ∷ []) ≡ false
no_name = refl

-- ---- lists of values, and where nodes begin

-- both bytes are digits, and of `1a` the second is none
all_digits : all_of is_digit (49 ∷ 50 ∷ []) ≡ true
all_digits = refl

not_all_digits : all_of is_digit (49 ∷ 97 ∷ []) ≡ false
not_all_digits = refl

-- two items of one byte each, and then `;`
two_ended : ended (λ b. b ∷ []) (59 ∷ []) (97 ∷ 98 ∷ []) ≡ 97 ∷ 98 ∷ 59 ∷ []
two_ended = refl

-- no node begins in a text of two bytes
none_of_two : none (97 ∷ 98 ∷ []) ≡ 0 ∷ 0 ∷ []
none_of_two = refl

-- inside one more a node of depth 1 has depth 2, and where none begins none begins
one_deeper : deeper 1 ≡ 2
one_deeper = refl

none_deeper : deeper 0 ≡ 0
none_deeper = refl

-- without its first item a list of one is empty
tail_of_one : tail (1 ∷ []) ≡ []
tail_of_one = refl

-- depths of at most 2 are within 2, and not within 1
within_2 : Within 2 (1 ∷ 0 ∷ 2 ∷ [])
within_2 = (lit≤ tt, (lit≤ tt, (lit≤ tt, tt)))

not_within_1 : ¬ (Within 1 (1 ∷ 0 ∷ 2 ∷ []))
not_within_1 depths = absurd (omega (arith, depths.1.1.0))

-- a node of depth 1 whose first byte is no node's, inside another
depths_inside : inner (1 ∷ 0 ∷ 2 ∷ []) ≡ 2 ∷ 0 ∷ 3 ∷ []
depths_inside = refl

-- ---- spellings and faults of one value

-- it is spelled `ab`, and is a node of depth 1
abbrev ab : Form (Unit {0})
ab = record { print = λ x. 97 ∷ 98 ∷ []; depths = λ x. 1 ∷ 0 ∷ []; shaped = λ x. Unit {0} }

-- `ab` spells it where nodes may be 1 deep, and not where none may stand; `a` does not
spells : Spells 1 ab tt (97 ∷ 98 ∷ [])
spells = (tt, (lit≤ tt, (lit≤ tt, tt)), refl)

not_so_deep : ¬ (Spells 0 ab tt (97 ∷ 98 ∷ []))
not_so_deep spelled = absurd (omega (arith, spelled.1.0))

not_whole : ¬ (Spells 1 ab tt (97 ∷ []))
not_whole spelled = let same : 1 ≡ 2 = ap (λ (l : List ℕ). length l) spelled.2 in absurd (omega (arith, same))

-- `a` begins the spelling, and `ac` does not
begun : Begun ab.print ab.shaped (97 ∷ [])
begun = record { whole = tt; is_shaped = tt; more = 98 ∷ []; spelled = refl }

not_begun : ¬ (Begun ab.print ab.shaped (97 ∷ 99 ∷ []))
not_begun front = let same : 98 ≡ 99 = ap (λ (l : List ℕ). get_or l 1 0) front.spelled in absurd (omega (arith, same))

-- of `ac` the byte at 1 is bad, and that at 0 is not
bad_byte : BadByte ab (97 ∷ 99 ∷ []) 1
bad_byte = (lit< tt, begun, not_begun)

no_bad_byte : ¬ (BadByte ab (97 ∷ 99 ∷ []) 0)
no_bad_byte bad = bad.2 begun

-- `a` ends too early, and `ab` does not
too_short : TooShort ab (97 ∷ []) 1
too_short = (refl, begun, λ x shaped whole. let same : 2 ≡ 1 = ap (λ (l : List ℕ). length l) whole in absurd (omega (arith, same)))

long_enough : ¬ (TooShort ab (97 ∷ 98 ∷ []) 2)
long_enough short = short.2 tt tt refl

-- the node at 0 is too deep where none may stand, and not where nodes may be 1 deep
too_deep : TooDeep 0 ab (97 ∷ 98 ∷ []) 0
too_deep = record { within = lit< tt; whole = tt; is_shaped = tt; more = 98 ∷ []; spelled = refl; opens = refl }

deep_enough : ¬ (TooDeep 1 ab (97 ∷ 98 ∷ []) 0)
deep_enough deep = absurd (omega (arith, deep.opens))

-- the bad byte at 1 is the first fault of `ac`
first : IsFirstFault 1 ab (97 ∷ 99 ∷ []) (fault.Byte 1)
first = (bad_byte, no_earlier) where
  no_earlier : (other : TextFault) → HasFault 1 ab (97 ∷ 99 ∷ []) other → 1 ≤ place_of other
  no_earlier (fault.Byte zero) bad = absurd (no_bad_byte bad)
  no_earlier (fault.Byte (suc p)) bad = omega arith
  no_earlier (fault.End p) short = omega (arith, short.0)
  no_earlier (fault.Deep zero) deep = absurd (omega (arith, deep.opens))
  no_earlier (fault.Deep (suc p)) deep = omega arith

-- where no node may stand it is not: the node at 0 is too deep
not_first : ¬ (IsFirstFault 0 ab (97 ∷ 99 ∷ []) (fault.Byte 1))
not_first is =
    let deep : HasFault 0 ab (97 ∷ 99 ∷ []) (fault.Deep 0) =
    record { within = lit< tt; whole = tt; is_shaped = tt; more = 98 ∷ []; spelled = refl; opens = refl } in
    let earlier : 1 ≤ 0 = is.1 (fault.Deep 0) deep in
    absurd (omega (arith, earlier))

-- ---- from bytes that are left to places

-- of two bytes one is left: the place is 1; a text that ends too early has its fault at its length
place_1 : placed 2 (stop.Bad 1) ≡ fault.Byte 1
place_1 = refl

place_of_end : placed 2 stop.End ≡ fault.End 2
place_of_end = refl

-- a refusal is reported with that place, and out of memory without one
told_at_1 : told 2 (refusal.At (stop.Bad 1)) ≡ unread.At (fault.Byte 1)
told_at_1 = refl

told_memory : told 2 refusal.Memory ≡ unread.Memory
told_memory = refl

-- of two bytes one may be left, and three may not
leaves_one : LeavesWithin 2 (refusal.At (stop.Bad 1))
leaves_one = lit≤ tt

leaves_three : ¬ (LeavesWithin 2 (refusal.At (stop.Bad 3)))
leaves_three left = absurd (omega (arith, left))
