-- The range of an entry among all headers is that of its file in its unit; so one stack of numbers gives both.
use Rattle.std.proofs.Common.{◌≡◌, ℕ, zero, suc, ◌+◌, ◌-◌, ◌⊎◌, inl, inr, Bool, true, false, cond, Option, Some, None, arith, refl, sym, ap, ◌∙◌, List, [], ◌∷◌, slice_get}
use Rattle.std.specs.Prelude.{◌==◌, option_map, unwrap_or}
use Rattle.std.proofs.lemmas.Option.{same_Some}
use Rattle.stab_codes.specs.declared.code.TheConstants.{N_SO}
use Rattle.nlist_codec.specs.declared.named.Named.{Named}
use Rattle.unit_outlines.specs.declared.kinds.Nesting.{Nesting}
use Rattle.unit_outlines.specs.declared.kinds.Nesting.TheVariants.{Opens, Closes, Parts, Other}
use Rattle.unit_outlines.specs.declared.nest.Nest.{Nest}
use Rattle.unit_outlines.specs.EntryWords.{behind_first}
use Rattle.unit_outlines.specs.Nests.{in_headers}
use Rattle.unit_outlines.specs.Marks.{is_header, headers_in, file_step, file_in, all_headers, start_in, range_step, range_in}
use Rattle.unit_outlines.specs.Sweeps.{Nests, files_turned}
use Rattle.unit_outlines.proofs.EntryKinds.{opens_kind, opens_header, source_parts, source_header}

-- ---- ranges and files

counts_by : (source header : Bool) (all start here : ℕ) → (source ≡ true → header ≡ false) → all ≡ start + here
    → cond header (all + 1) all ≡ cond source all start + cond source 0 (cond header (here + 1) here)
counts_by true true all start here apart is = let other = apart refl in absurd cc
counts_by true false all start here apart is = omega arith
counts_by false true all start here apart is = omega arith
counts_by false false all start here apart is = is

-- all headers are those before the unit and those in it
pub all_counted : (back : List Named) → all_headers back ≡ start_in back + headers_in back
all_counted [] = omega arith
all_counted (e ∷ back) = counts_by (e.kind == N_SO) (is_header e.kind) (all_headers back) (start_in back) (headers_in back) (source_header e.kind) (all_counted back)

-- the range of a file of the unit whose first header has this place
abbrev pub range_of : ℕ → ℕ → Option ℕ
range_of start zero = None
range_of start (suc file) = Some (start + file)

range_at : (all all_new start start_new here here_new : ℕ) → all ≡ start + here → all_new ≡ start_new + here_new → all_new ≡ all + 1 → start_new ≡ start
    → Some all ≡ range_of start_new here_new
range_at all all_new start start_new here zero was is more same = absurd (omega arith)
range_at all all_new start start_new here (suc n) was is more same = let place : all ≡ start_new + n = omega arith in ap Some place

file_turned : (s : Nesting) (ends number place start start_new : ℕ) (f : ℕ → Option ℕ) (g : ℕ → ℕ) → (s ≡ Opens → Some place ≡ range_of start_new number)
    → ((s ≡ Parts) ⊎ (start_new ≡ start)) → ((n : ℕ) → f n ≡ range_of start (g n)) → range_step s ends place f ≡ range_of start_new (file_step s ends number g)
file_turned Opens zero number place start start_new f g opens apart same = opens refl
file_turned Opens (suc ends) number place start start_new f g opens apart same = elim apart [ inl parts ↦ absurd cc | inr is ↦ rw is (same ends) ]
file_turned Closes ends number place start start_new f g opens apart same = elim apart [ inl parts ↦ absurd cc | inr is ↦ rw is (same (suc ends)) ]
file_turned Parts ends number place start start_new f g opens apart same = refl
file_turned Other ends number place start start_new f g opens apart same = elim apart [ inl parts ↦ absurd cc | inr is ↦ rw is (same ends) ]

start_by : (source : Bool) (e : Named) (back : List Named) → (e.kind == N_SO) ≡ source → (in_headers e ≡ Parts) ⊎ (start_in (e ∷ back) ≡ start_in back)
start_by true e back is = inl (source_parts e.kind is)
start_by false e back is = inr (rw is refl)

-- an entry that opens a range has the next place, and its file the next number
opened_file : (e : Named) (back : List Named) → in_headers e ≡ Opens → Some (all_headers back) ≡ range_of (start_in (e ∷ back)) (headers_in (e ∷ back))
opened_file e back opens =
    let header = opens_header e.kind opens in
    let source : (e.kind == N_SO) ≡ false = ap (λ k. k == N_SO) (opens_kind e.kind opens) in
    range_at (all_headers back) (all_headers (e ∷ back)) (start_in back) (start_in (e ∷ back)) (headers_in back) (headers_in (e ∷ back)) (all_counted back) (all_counted (e ∷ back))
    (rw header refl) (rw source refl)

-- the range of an entry is that of its file
pub range_file : (back : List Named) (ends : ℕ) → range_in back ends ≡ range_of (start_in back) (file_in back ends)
range_file [] ends = refl
range_file (e ∷ back) ends = file_turned (in_headers e) ends (headers_in (e ∷ back)) (all_headers back) (start_in back) (start_in (e ∷ back)) (range_in back) (file_in back)
    (opened_file e back) (start_by (e.kind == N_SO) e back refl) (range_file back)

-- files of one range are one
pub one_file : (start m n : ℕ) → range_of start m ≡ range_of start n → m ≡ n
one_file start zero zero same = refl
one_file start zero (suc n) same = absurd cc
one_file start (suc m) zero same = absurd cc
one_file start (suc m) (suc n) same = let is = same_Some (start + m) (start + n) same in omega arith

-- ---- one stack

-- all items but the first begin with the second
pub behind_get : (places : List ℕ) (n : ℕ) → slice_get places (suc n) ≡ slice_get (behind_first places) n
behind_get [] n = refl
behind_get (place ∷ places) n = refl

-- the numbers that are open behind one more entry are those of its ranges
pub numbers_turned : (s : Nesting) (ends place : ℕ) (outer : ℕ → Option ℕ) (numbers : List ℕ) → ((n : ℕ) → option_map suc (outer n) ≡ slice_get numbers n)
    → option_map suc (range_step s ends place outer) ≡ slice_get (files_turned s (suc place) numbers) ends
numbers_turned Opens zero place outer numbers same = refl
numbers_turned Opens (suc ends) place outer numbers same = same ends
numbers_turned Closes ends place outer numbers same = same (suc ends) ∙ behind_get numbers ends
numbers_turned Parts ends place outer numbers same = refl
numbers_turned Other ends place outer numbers same = same ends

number_file : (start file : ℕ) (r : Option ℕ) → r ≡ range_of start file → unwrap_or (option_map suc r) start - start ≡ file
number_file start zero r is = rw is (omega arith)
number_file start (suc file) r is = rw is (omega arith)

-- the file of the number on top
pub file_is : (back : List Named) (n : Nest) → Nests back n → unwrap_or (slice_get n.open 0) n.start - n.start ≡ file_in back 0
file_is back n nests =
    rw (sym (nests.open_are 0), nests.start_is) (number_file (start_in back) (file_in back 0) (range_in back 0) (range_file back 0))

place_is_by : (r : Option ℕ) → option_map (λ n. n - 1) (option_map suc r) ≡ r
place_is_by None = refl
place_is_by (Some place) = let less : suc place - 1 ≡ place = omega arith in ap Some less

-- and its range
pub range_is : (back : List Named) (n : Nest) → Nests back n → option_map (λ n. n - 1) (slice_get n.open 0) ≡ range_in back 0
range_is back n nests = ap (option_map (λ n. n - 1)) (sym (nests.open_are 0)) ∙ place_is_by (range_in back 0)
