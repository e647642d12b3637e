-- A list and the changed one, walked side by side. Each entry of the list is a mark of a header, whose mark is changed, or it stays, or
-- it goes; and what the definitions say of the entries before it in one list, they say of those in the other.
use Rattle.std.proofs.Common.{◌≡◌, ℕ, zero, suc, ◌+◌, inl, inr, Bool, true, false, cond, Option, Some, None, refl, sym, ap, ◌∙◌, List, [], ◌∷◌, slice_get, filter}
use Rattle.std.specs.Prelude.{◌==◌, ◌&&◌}
use Rattle.st_base.specs.Stabs.{is_stab}
use Rattle.stab_codes.specs.declared.code.TheConstants.{N_SO, N_BINCL, N_EINCL, N_EXCL}
use Rattle.nlist_codec.specs.declared.named.Named.{Named}
use Rattle.unit_outlines.specs.declared.kinds.Nesting.{Nesting}
use Rattle.unit_outlines.specs.declared.kinds.Nesting.TheVariants.{Opens, Closes, Parts, Other}
use Rattle.unit_outlines.specs.EntryWords.{behind_first}
use Rattle.unit_outlines.specs.Nests.{nesting_of, in_headers}
use Rattle.unit_outlines.specs.Runs.{is_open, link_at, goes, continued}
use Rattle.unit_outlines.specs.Marks.{is_header, file_in, all_headers, start_in, range_step, range_in}
use Rattle.unit_outlines.specs.Sweeps.{files_turned}
use Rattle.unit_outlines.proofs.EntryKinds.{opens_header, closes_stab, parts_source, source_parts}
use Rattle.stab_units.specs.Changing.{Change, is_kept_in, mark_changed, is_left}
use Rattle.stab_units.proofs.KindLemmas.{IsMark, header_kind, header_mark, either_mark, carrier, open_carries, no_carries_open, closed_ends, continued_carries}
use Rattle.unit_outlines.proofs.RangeLemmas.{range_of, range_file, one_file, behind_get}

-- ---- ranges that are open

-- the places of the headers whose ranges are open after these entries, innermost first
abbrev pub open_places : List Named → List ℕ
open_places [] = []
open_places (e ∷ back) = files_turned (in_headers e) (all_headers back) (open_places back)

range_turned : (s : Nesting) (ends place : ℕ) (outer : ℕ → Option ℕ) (places : List ℕ) → ((n : ℕ) → outer n ≡ slice_get places n)
    → range_step s ends place outer ≡ slice_get (files_turned s place places) ends
range_turned Opens zero place outer places same = refl
range_turned Opens (suc ends) place outer places same = same ends
range_turned Closes ends place outer places same = same (suc ends) ∙ behind_get places ends
range_turned Parts ends place outer places same = refl
range_turned Other ends place outer places same = same ends

-- the range after entries is the innermost that is open, and further out the next ones
pub range_open : (back : List Named) (ends : ℕ) → range_in back ends ≡ slice_get (open_places back) ends
range_open [] ends = refl
range_open (e ∷ back) ends = range_turned (in_headers e) ends (all_headers back) (range_in back) (open_places back) (range_open back)

-- an entry that neither opens nor closes a range is in that of the next one
pub same_range : (e : Named) (back : List Named) (ends : ℕ) → in_headers e ≡ Other → range_in (e ∷ back) ends ≡ range_in back ends
same_range e back ends other = ap (λ s. range_step s ends (all_headers back) (range_in back)) other

-- after an N_SO no range is open
pub source_range : (e : Named) (back : List Named) (ends : ℕ) → (e.kind == N_SO) ≡ true → range_in (e ∷ back) ends ≡ None
source_range e back ends is = ap (λ s. range_step s ends (all_headers back) (range_in back)) (source_parts e.kind is)

pub source_places : (e : Named) (back : List Named) → (e.kind == N_SO) ≡ true → open_places (e ∷ back) ≡ []
source_places e back is = ap (λ s. files_turned s (all_headers back) (open_places back)) (source_parts e.kind is)

-- ---- turns

-- what becomes of an entry: it is a mark, changed to another, or it stays, or it goes
pub data Turn : Type 0 where
  marked : Named → Named → Turn
  stays : Named → Turn
  goes_out : Named → Turn

-- the entries before
abbrev pub before : List Turn → List Named
before [] = []
before (marked e f ∷ ts) = e ∷ before ts
before (stays e ∷ ts) = e ∷ before ts
before (goes_out e ∷ ts) = e ∷ before ts

-- and after
abbrev pub after : List Turn → List Named
after [] = []
after (marked e f ∷ ts) = f ∷ after ts
after (stays e ∷ ts) = e ∷ after ts
after (goes_out e ∷ ts) = after ts

is_and_true : (b : Bool) → b ≡ (b && true)
is_and_true true = refl
is_and_true false = refl

and_false : (b : Bool) → (b && false) ≡ false
and_false true = refl
and_false false = refl

module _ (c : Change) where
  -- a file stays with its range
  pub left_range : (start file : ℕ) → is_left c start file ≡ is_kept_in c (range_of start file)
  left_range start zero = refl
  left_range start (suc file) = refl

  -- the file of an entry stays with the entry's range
  pub left_file : (back : List Named) → is_left c (start_in back) (file_in back 0) ≡ is_kept_in c (range_in back 0)
  left_file back = left_range (start_in back) (file_in back 0) ∙ ap (is_kept_in c) (sym (range_file back 0))

  -- the entries before one in the list, nearest first, and in the changed one
  pub record IsBeside (back new : List Named) : Type 0 where
    pub ranges : open_places new ≡ filter c.kept (open_places back)
    pub count : all_headers new ≡ all_headers back
    pub start : start_in new ≡ start_in back
    pub going : (e : Named) → continued new e ≡ (continued back e && is_kept_in c (range_in back 0))

  -- a mark and what it becomes
  pub record IsMarked (back : List Named) (e f : Named) : Type 0 where
    pub first : IsMark e.kind
    pub second : IsMark f.kind
    pub is : f ≡ mark_changed c (all_headers back) e

  -- an entry that stays: a stab of a range that does, or no stab; at an N_SO no range is open
  pub record Stays (back : List Named) (e : Named) : Type 0 where
    pub header : is_header e.kind ≡ false
    pub kept : is_stab e.kind ≡ true → is_kept_in c (range_in back 0) ≡ true
    pub source : (e.kind == N_SO) ≡ true → open_places back ≡ []

  -- an entry that goes: a stab of a range that does not stay
  pub record GoesOut (back : List Named) (e : Named) : Type 0 where
    pub header : is_header e.kind ≡ false
    pub stab : is_stab e.kind ≡ true
    pub gone : is_kept_in c (range_in back 0) ≡ false
    pub source : (e.kind == N_SO) ≡ false

  -- turns one after another, after these entries of the list and of the changed one
  abbrev pub Walk : List Named → List Named → List Turn → Type 0
  Walk back new [] = IsBeside back new
  Walk back new (marked e f ∷ ts) = IsMarked back e f × IsBeside back new × Walk (e ∷ back) (f ∷ new) ts
  Walk back new (stays e ∷ ts) = Stays back e × IsBeside back new × Walk (e ∷ back) (e ∷ new) ts
  Walk back new (goes_out e ∷ ts) = GoesOut back e × IsBeside back new × Walk (e ∷ back) new ts

  -- ---- one step

  never_goes : (e : Named) (o : Option Named) → is_open e ≡ false → goes (link_at e o) ≡ false
  never_goes e o closed = ap goes (closed_ends e o closed)

  pub kept_places : (back : List Named) (b : Bool) → is_kept_in c (range_in back 0) ≡ b → is_kept_in c (slice_get (open_places back) 0) ≡ b
  kept_places back b is = ap (is_kept_in c) (sym (range_open back 0)) ∙ is

  -- nothing goes on from one mark or the other
  mark_going : (back new : List Named) (e f g : Named) → IsMark e.kind → IsMark f.kind
      → continued (f ∷ new) g ≡ (continued (e ∷ back) g && is_kept_in c (range_in (e ∷ back) 0))
  mark_going back new e f g first second =
      never_goes f (Some g) (no_carries_open f second.carries)
      ∙ sym (ap (λ b. b && is_kept_in c (range_in (e ∷ back) 0)) (never_goes e (Some g) (no_carries_open e first.carries)))

  begin_opens : (kept : Bool) → nesting_of N_BINCL N_EINCL (cond kept N_BINCL N_EXCL) ≡ cond kept Opens Other
  begin_opens true = refl
  begin_opens false = refl

  opened : (kept : Bool) (n m : ℕ) (ps qs : List ℕ) → n ≡ m → ps ≡ qs → files_turned (cond kept Opens Other) n ps ≡ cond kept (m ∷ qs) qs
  opened true n m ps qs number places = rw (number, places) refl
  opened false n m ps qs number places = places

  changed_kind : (b kept : Bool) → b ≡ true → nesting_of N_BINCL N_EINCL (cond (b && kept) N_BINCL N_EXCL) ≡ cond kept Opens Other
  changed_kind b kept is = rw is (begin_opens kept)

  other_kind : (b kept : Bool) → b ≡ false → nesting_of N_BINCL N_EINCL (cond (b && kept) N_BINCL N_EXCL) ≡ Other
  other_kind b kept is = rw is refl

  -- the ranges that are open after a mark
  mark_ranges : (back new : List Named) (e : Named) → is_header e.kind ≡ true → IsBeside back new
      → files_turned (in_headers (mark_changed c (all_headers back) e)) (all_headers new) (open_places new) ≡ filter c.kept (files_turned (in_headers e) (all_headers back) (open_places back))
  mark_ranges back new e header beside = elim (header_kind e.kind header) [
    | inl begins ↦
        ap (λ s. files_turned s (all_headers new) (open_places new)) (changed_kind (e.kind == N_BINCL) (c.kept (all_headers back)) (ap (λ k. k == N_BINCL) begins))
        ∙ opened (c.kept (all_headers back)) (all_headers new) (all_headers back) (open_places new) (filter c.kept (open_places back)) beside.count beside.ranges
        ∙ sym (ap (λ k. filter c.kept (files_turned (nesting_of N_BINCL N_EINCL k) (all_headers back) (open_places back))) begins)
    | inr excluded ↦
        ap (λ s. files_turned s (all_headers new) (open_places new)) (other_kind (e.kind == N_BINCL) (c.kept (all_headers back)) (ap (λ k. k == N_BINCL) excluded))
        ∙ beside.ranges
        ∙ sym (ap (λ k. filter c.kept (files_turned (nesting_of N_BINCL N_EINCL k) (all_headers back) (open_places back))) excluded)
  ]

  pub is_marked : (back : List Named) (e : Named) → is_header e.kind ≡ true → IsMarked back e (mark_changed c (all_headers back) e)
  is_marked back e header = record { first = header_mark e.kind header; second = either_mark ((e.kind == N_BINCL) && c.kept (all_headers back)); is = refl }

  pub beside-marked : (back new : List Named) (e : Named) → is_header e.kind ≡ true → IsBeside back new
      → IsBeside (e ∷ back) (mark_changed c (all_headers back) e ∷ new)
  beside-marked back new e header beside =
      let f = mark_changed c (all_headers back) e in
      let marks = is_marked back e header in
      record {
        ranges = mark_ranges back new e header beside;
        count = ap (λ b. cond b (all_headers new + 1) (all_headers new)) marks.second.header ∙ ap (λ n. n + 1) beside.count
            ∙ sym (ap (λ b. cond b (all_headers back + 1) (all_headers back)) marks.first.header);
        start = ap (λ b. cond b (all_headers new) (start_in new)) marks.second.source ∙ beside.start
            ∙ sym (ap (λ b. cond b (all_headers back) (start_in back)) marks.first.source);
        going = λ g. mark_going back new e f g marks.first marks.second;
      }

  closed_kept : (ps qs : List ℕ) → is_kept_in c (slice_get ps 0) ≡ true → qs ≡ filter c.kept ps → behind_first qs ≡ filter c.kept (behind_first ps)
  closed_kept [] qs kept is = ap behind_first is
  closed_kept (p ∷ ps) qs kept is = ap behind_first (is ∙ ap (λ b. cond b (p ∷ filter c.kept ps) (filter c.kept ps)) kept)

  closed_gone : (ps qs : List ℕ) → is_kept_in c (slice_get ps 0) ≡ false → qs ≡ filter c.kept ps → qs ≡ filter c.kept (behind_first ps)
  closed_gone [] qs gone is = absurd cc
  closed_gone (p ∷ ps) qs gone is = is ∙ ap (λ b. cond b (p ∷ filter c.kept ps) (filter c.kept ps)) gone

  stays_ranges : (s : Nesting) (n m : ℕ) (ps qs : List ℕ) → (s ≡ Opens → ⊥) → (s ≡ Closes → is_kept_in c (slice_get ps 0) ≡ true) → qs ≡ filter c.kept ps
      → files_turned s n qs ≡ filter c.kept (files_turned s m ps)
  stays_ranges Opens n m ps qs opens closes is = absurd (opens refl)
  stays_ranges Closes n m ps qs opens closes is = closed_kept ps qs (closes refl) is
  stays_ranges Parts n m ps qs opens closes is = refl
  stays_ranges Other n m ps qs opens closes is = is

  gone_ranges : (s : Nesting) (m : ℕ) (ps qs : List ℕ) → (s ≡ Opens → ⊥) → (s ≡ Parts → ⊥) → is_kept_in c (slice_get ps 0) ≡ false → qs ≡ filter c.kept ps
      → qs ≡ filter c.kept (files_turned s m ps)
  gone_ranges Opens m ps qs opens parts gone is = absurd (opens refl)
  gone_ranges Closes m ps qs opens parts gone is = closed_gone ps qs gone is
  gone_ranges Parts m ps qs opens parts gone is = absurd (parts refl)
  gone_ranges Other m ps qs opens parts gone is = is

  never_opens : (e : Named) → is_header e.kind ≡ false → in_headers e ≡ Opens → ⊥
  never_opens e other opens = let header = opens_header e.kind opens in absurd cc

  -- what goes on from an entry of a range that stays
  stays_going : (b : Bool) (back new : List Named) (e g : Named) → is_open e ≡ b → Stays back e
      → goes (link_at e (Some g)) ≡ (goes (link_at e (Some g)) && is_kept_in c (range_in (e ∷ back) 0))
  stays_going true back new e g is stay =
      let carry = carrier e.kind (open_carries e is) in
      is_and_true (goes (link_at e (Some g)))
      ∙ ap (λ b. goes (link_at e (Some g)) && b) (sym (ap (is_kept_in c) (same_range e back 0 carry.headers) ∙ stay.kept carry.stab))
  stays_going false back new e g is stay = never_goes e (Some g) is ∙ ap (λ b. b && is_kept_in c (range_in (e ∷ back) 0)) (sym (never_goes e (Some g) is))

  pub beside-stays : (back new : List Named) (e : Named) → Stays back e → IsBeside back new → IsBeside (e ∷ back) (e ∷ new)
  beside-stays back new e stay beside = record {
    ranges = stays_ranges (in_headers e) (all_headers new) (all_headers back) (open_places back) (open_places new) (never_opens e stay.header)
        (λ closes. kept_places back true (stay.kept (closes_stab e.kind closes))) beside.ranges;
    count = ap (λ n. cond (is_header e.kind) (n + 1) n) beside.count;
    start = rw (beside.count, beside.start) refl;
    going = λ g. stays_going (is_open e) back new e g refl stay;
  }

  -- nothing goes on from an entry that goes, as far as it stays
  gone_going : (b : Bool) (back : List Named) (e g : Named) → is_open e ≡ b → GoesOut back e
      → (goes (link_at e (Some g)) && is_kept_in c (range_in (e ∷ back) 0)) ≡ false
  gone_going true back e g is out =
      let carry = carrier e.kind (open_carries e is) in
      ap (λ b. goes (link_at e (Some g)) && b) (ap (is_kept_in c) (same_range e back 0 carry.headers) ∙ out.gone) ∙ and_false (goes (link_at e (Some g)))
  gone_going false back e g is out = ap (λ b. b && is_kept_in c (range_in (e ∷ back) 0)) (never_goes e (Some g) is)

  no_parts : (e : Named) → (e.kind == N_SO) ≡ false → in_headers e ≡ Parts → ⊥
  no_parts e other parts = let source = parts_source e.kind parts in absurd cc

  pub beside-gone : (back new : List Named) (e : Named) → GoesOut back e → IsBeside back new → IsBeside (e ∷ back) new
  beside-gone back new e out beside = record {
    ranges = gone_ranges (in_headers e) (all_headers back) (open_places back) (open_places new) (never_opens e out.header) (no_parts e out.source) (kept_places back false out.gone) beside.ranges;
    count = beside.count ∙ sym (ap (λ b. cond b (all_headers back + 1) (all_headers back)) out.header);
    start = beside.start ∙ sym (ap (λ b. cond b (all_headers back) (start_in back)) out.source);
    going = λ g. beside.going g ∙ ap (λ b. continued back g && b) out.gone ∙ and_false (continued back g) ∙ sym (gone_going (is_open e) back e g refl out);
  }

  -- ---- what the two sides share at an entry that stays

  goes_same : (b : Bool) (back new : List Named) (e : Named) → continued back e ≡ b → Stays back e → IsBeside back new → continued new e ≡ b
  goes_same true back new e is stay beside = beside.going e ∙ rw (is, stay.kept (carrier e.kind (continued_carries back e is)).stab) refl
  goes_same false back new e is stay beside = beside.going e ∙ ap (λ b. b && is_kept_in c (range_in back 0)) is

  -- it goes on with the string before it in both or in none
  pub same_continued : (back new : List Named) (e : Named) → Stays back e → IsBeside back new → continued new e ≡ continued back e
  same_continued back new e stay beside = goes_same (continued back e) back new e refl stay beside

  top_kept : (ps qs : List ℕ) → is_kept_in c (slice_get ps 0) ≡ true → qs ≡ filter c.kept ps → slice_get qs 0 ≡ slice_get ps 0
  top_kept [] qs kept is = ap (λ zs. slice_get zs 0) is
  top_kept (p ∷ ps) qs kept is = ap (λ zs. slice_get zs 0) (is ∙ ap (λ b. cond b (p ∷ filter c.kept ps) (filter c.kept ps)) kept)

  -- a stab that stays has the same file
  pub stays_file : (back new : List Named) → is_kept_in c (range_in back 0) ≡ true → IsBeside back new → file_in new 0 ≡ file_in back 0
  stays_file back new kept beside = one_file (start_in back) (file_in new 0) (file_in back 0)
      (ap (λ n. range_of n (file_in new 0)) (sym beside.start) ∙ sym (range_file new 0) ∙ range_open new 0
      ∙ top_kept (open_places back) (open_places new) (kept_places back true kept) beside.ranges ∙ sym (range_open back 0) ∙ range_file back 0)
