-- The units of a changed list are those of the list, one for each, as long as no fault of an outline is reported for the list; and where of
-- the stabs of units only N_LSYM stabs go, no bracket goes.
use Rattle.std.proofs.Common.{◌≡◌, ℕ, suc, ◌+◌, ◌≤◌, ◌⊎◌, inl, inr, Bool, true, false, cond, None, arith, refl, sym, ap, ◌∙◌, subst, List, [], ◌∷◌, length, length-append, slice_get, drop, filter}
use Rattle.std.specs.Prelude.{◌==◌, not}
use Rattle.std.specs.List.{AllByRecursion}
use Rattle.st_base.specs.Stabs.{is_stab}
use Rattle.stab_codes.specs.declared.code.TheConstants.{N_SO}
use Rattle.nlist_codec.specs.declared.named.Named.{Named}
use Rattle.unit_outlines.specs.declared.kinds.SourceMark.{SourceMark}
use Rattle.unit_outlines.specs.declared.kinds.SourceMark.TheVariants.{Directory, Start, Stop, NoMark}
use Rattle.unit_outlines.specs.declared.outline_types.Marks.{Marks}
use Rattle.unit_outlines.specs.declared.outline_types.Marks.TheVariants.{Image}
use Rattle.unit_outlines.specs.declared.outline_types.UnitSpan.{UnitSpan}
use Rattle.unit_outlines.specs.EntryWords.{next, is_empty, ends_in}
use Rattle.unit_outlines.specs.Marks.{names_source, mark_at, in_unit, is_header, all_headers, range_in, start_in}
use Rattle.unit_outlines.specs.Outlines.{headers_from, inside, span_step, span_at, units_from, units_of, directory_of, outline_tell, OutlineFault}
use Rattle.stab_units.specs.Units.{stabs_from, stabs_of, AreRead}
use Rattle.stab_units.specs.Changing.{Change, is_kept_in, mark_changed, changed_at, changed_from, changed, is_left_item, IsLocalIfGone, LocalsGo, IsSpanChanged, AreSpansChanged, AreMarksChanged}
use Rattle.stab_units.proofs.AlikeLemmas.{both_true}
use Rattle.stab_units.proofs.ReadableLemmas.{begins, directory_next, no_stop, no_mark, drop_next}
use Rattle.unit_outlines.proofs.UntoldLemmas.{Untold, fault-untold}
use Rattle.unit_outlines.proofs.EntryKinds.{source_header}
use Rattle.stab_units.proofs.ChangeSteps.{open_places, range_open, source_places, Turn, marked, stays, goes_out, before, after, GoesOut, Walk}
use Rattle.stab_units.proofs.ChangeWalks.{turns, before-turns, after-turns, walk}
use Rattle.stab_units.proofs.ChangeFaults.{NoBlockGoes, outline_matched, changed_outline}
use Rattle.stab_units.proofs.ChangeStabs.{stabs_from-far, source_stabs, more_stabs, same_start, all_behind, gone_block, stabs_after}
use Rattle.stab_units.proofs.ChangeMarks.{headers_ahead, headers_counted, in_its_unit, none_ahead, mark_ahead, IsNext, next_more, next_source, next_none, next_unit, no_unit, mark_after, end_after, headers_after}

-- the stabs of the unit that an N_SO begins are those after it
stabs_behind : (text_end : ℕ) (directory : List ℕ) (all : List Named) (p : ℕ) (e : Named) (es back : List Named) → (e.kind == N_SO) ≡ true → drop p all ≡ e ∷ es
    → stabs_of all (span_at text_end directory p e es) ≡ stabs_from (e ∷ back) (p + 1) es
stabs_behind text_end directory all p e es back source is = ap (stabs_from [] (p + 1)) (drop_next all p e es is) ∙ sym (stabs_from-far e back source (p + 1) es)

-- after a directory mark there are none
directory_stabs : (back : List Named) (p : ℕ) (es : List Named) → names_source (next es) ≡ true → stabs_from back p es ≡ []
directory_stabs back p [] names = refl
directory_stabs back p (f ∷ es) names = source_stabs back p f es (both_true (f.kind == N_SO) _ names).0

-- its headers are counted from all headers before it
source_counted : (e : Named) (back : List Named) → (e.kind == N_SO) ≡ true → all_headers (e ∷ back) ≡ start_in (e ∷ back)
source_counted e back source = ap (λ b. cond b (all_headers back + 1) (all_headers back)) (source_header e.kind source)
    ∙ sym (ap (λ b. cond b (all_headers back) (start_in back)) source)

source_within : (e : Named) (back : List Named) (b : Bool) → (e.kind == N_SO) ≡ true → in_unit (e ∷ back) ≡ b → not (is_empty e.name) ≡ b
source_within e back b source is = sym (ap (λ z. cond z (not (is_empty e.name)) (in_unit back)) source) ∙ is

same_within : (e : Named) (back : List Named) (b : Bool) → (e.kind == N_SO) ≡ false → in_unit (e ∷ back) ≡ b → in_unit back ≡ b
same_within e back b source is = sym (ap (λ z. cond z (not (is_empty e.name)) (in_unit back)) source) ∙ is

module _ (c : Change) (marks : Marks) (text_end : ℕ) (entries : List Named) where
  -- ---- brackets

  -- of the stabs of the unit that is being read only N_LSYM stabs go
  abbrev UnitLocalsGo : List Named → ℕ → List Named → Type 0
  UnitLocalsGo back p es = in_unit back ≡ true → AllByRecursion (IsLocalIfGone c (start_in back)) (stabs_from back p es)

  -- of this unit, and of those that come
  record AllLocalsGo (back : List Named) (p : ℕ) (es : List Named) (spans : List UnitSpan) : Type 0 where
    place : ℕ
    is_next : IsNext place back es
    here : UnitLocalsGo back p es
    later : LocalsGo c entries place spans

  source_locals : (mark : SourceMark) (directory : List ℕ) (p place : ℕ) (back : List Named) (e : Named) (es : List Named) (spans : List UnitSpan)
      → mark_at e (next es) ≡ mark
      → (e.kind == N_SO) ≡ true → drop p entries ≡ e ∷ es → Untold (outline_tell marks) (e ∷ back) es → IsNext place back (e ∷ es)
      → LocalsGo c entries place (span_step mark (span_at text_end directory p e es) spans) → AllLocalsGo (e ∷ back) (p + 1) es spans
  source_locals Directory directory p place back e es spans is source at untold is_next locals = record {
    place = place;
    is_next = next_none place (all_headers (e ∷ back)) (headers_ahead es) (next_source place back e es source is_next) (mark_ahead marks Directory back e es (λ starts. absurd cc) is source untold);
    here = λ within. subst (λ ss. AllByRecursion (IsLocalIfGone c (start_in (e ∷ back))) ss)
        (sym (directory_stabs (e ∷ back) (p + 1) es (directory_next (e.kind == N_SO) (is_empty e.name) (ends_in 47 e.name) (names_source (next es)) is))) tt;
    later = locals;
  }
  source_locals Start directory p place back e es spans is source at untold is_next locals =
      let here_place = next_source place back e es source is_next in record {
        place = place + length (headers_from (p + 1) (inside es));
        is_next = next_unit place (all_headers (e ∷ back)) (headers_ahead es) (length (headers_from (p + 1) (inside es))) here_place (headers_counted (p + 1) es);
        here = λ within. subst (λ n. AllByRecursion (IsLocalIfGone c n) (stabs_from (e ∷ back) (p + 1) es)) (here_place ∙ source_counted e back source)
            (subst (λ ss. AllByRecursion (IsLocalIfGone c place) ss) (stabs_behind text_end directory entries p e es back source at) locals.0);
        later = locals.1;
      }
  source_locals Stop directory p place back e es spans is source at untold is_next locals = record {
    place = place;
    is_next = next_none place (all_headers (e ∷ back)) (headers_ahead es) (next_source place back e es source is_next) (mark_ahead marks Stop back e es (λ starts. absurd cc) is source untold);
    here = λ within. absurd (no_stop (e.kind == N_SO) (is_empty e.name) _ is (source_within e back true source within));
    later = locals;
  }
  source_locals NoMark directory p place back e es spans is source at untold is_next locals = absurd (no_mark (e.kind == N_SO) (is_empty e.name) _ is source)

  stays_locals : (source : Bool) (directory : List ℕ) (p place : ℕ) (back : List Named) (e : Named) (es : List Named) → (e.kind == N_SO) ≡ source
      → drop p entries ≡ e ∷ es
      → Untold (outline_tell marks) (e ∷ back) es → IsNext place back (e ∷ es) → UnitLocalsGo back p (e ∷ es)
      → LocalsGo c entries place (units_from text_end directory p (e ∷ es))
      → (directory_new : List ℕ) × AllLocalsGo (e ∷ back) (p + 1) es (units_from text_end directory_new (p + 1) es)
  stays_locals true directory p place back e es source at untold is_next here locals =
      (directory_of (mark_at e (next es)) e.name, source_locals (mark_at e (next es)) directory p place back e es _ refl source at untold is_next locals)
  stays_locals false directory p place back e es source at untold is_next here locals = (
    [],
    record {
      place = place;
      is_next = next_more place back e es source is_next;
      here = λ within. subst (λ n. AllByRecursion (IsLocalIfGone c n) (stabs_from (e ∷ back) (p + 1) es)) (sym (same_start e back source))
          (all_behind (IsLocalIfGone c (start_in back)) (begins back e) e p _ es (stabs_from (e ∷ back) (p + 1) es)
          (subst (λ ss. AllByRecursion (IsLocalIfGone c (start_in back)) ss) (more_stabs back p e es source) (here (same_within e back true source within))));
      later = subst (λ spans. LocalsGo c entries place spans) (no_unit text_end directory p e es source) locals;
    },
  )

  -- no bracket goes
  no_block : (ts : List Turn) (back new : List Named) (directory : List ℕ) (p : ℕ) → Walk c back new ts → Untold (outline_tell marks) back (before ts)
      → drop p entries ≡ before ts
      → AllLocalsGo back p (before ts) (units_from text_end directory p (before ts)) → NoBlockGoes ts
  no_block [] back new directory p walk untold at locals = tt
  no_block (marked e f ∷ ts) back new directory p walk untold at locals =
      let more = stays_locals false directory p locals.place back e (before ts) walk.0.first.source at untold.1 locals.is_next locals.here locals.later in
      no_block ts (e ∷ back) (f ∷ new) more.0 (p + 1) walk.2 untold.1 (drop_next entries p e (before ts) at) more.1
  no_block (stays e ∷ ts) back new directory p walk untold at locals =
      let more = stays_locals (e.kind == N_SO) directory p locals.place back e (before ts) refl at untold.1 locals.is_next locals.here locals.later in
      no_block ts (e ∷ back) (e ∷ new) more.0 (p + 1) walk.2 untold.1 (drop_next entries p e (before ts) at) more.1
  no_block (goes_out e ∷ ts) back new directory p walk untold at locals =
      let out = walk.0 in
      let more = stays_locals false directory p locals.place back e (before ts) out.source at untold.1 locals.is_next locals.here locals.later in
      let within = in_its_unit marks back e (before ts) untold out.stab out.source in (
        gone_block c back e p (before ts) (stabs_from (e ∷ back) (p + 1) (before ts)) out
            (subst (λ ss. AllByRecursion (IsLocalIfGone c (start_in back)) ss) (more_stabs back p e (before ts) out.source) (locals.here within)),
        no_block ts (e ∷ back) new more.0 (p + 1) walk.2 untold.1 (drop_next entries p e (before ts) at) more.1,
      )

  -- ---- units

  -- a unit and what it becomes
  unit_changed : (ts : List Turn) (directory : List ℕ) (p q place : ℕ) (back new : List Named) (e : Named) → (e.kind == N_SO) ≡ true
      → Walk c (e ∷ back) (e ∷ new) ts
      → Untold (outline_tell marks) (e ∷ back) (before ts) → drop p entries ≡ e ∷ before ts → drop q (changed c entries) ≡ e ∷ after ts
      → place ≡ all_headers (e ∷ back)
      → IsSpanChanged c entries place (span_at text_end directory p e (before ts)) (span_at text_end directory q e (after ts))
  unit_changed ts directory p q place back new e source walk untold at at_new is = record {
    name = refl;
    start = refl;
    end = end_after c text_end ts (e ∷ back) (e ∷ new) walk;
    headers = subst (λ n. AreMarksChanged c n (headers_from (p + 1) (inside (before ts))) (headers_from (q + 1) (inside (after ts)))) (sym is)
        (headers_after c ts (e ∷ back) (e ∷ new) (p + 1) (q + 1) walk);
    reads = λ items read.
        subst (λ ss. AreRead ss (filter (is_left_item c place) items)) (sym (stabs_behind text_end directory (changed c entries) q e (after ts) new source at_new))
        (stabs_after c marks ts (e ∷ back) (e ∷ new) (p + 1) (q + 1) place (sym (is ∙ source_counted e back source)) walk untold items
        (subst (λ ss. AreRead ss items) (stabs_behind text_end directory entries p e (before ts) back source at) read));
  }

  both_spans : (place : ℕ) (ss ss_same ts ts_same : List UnitSpan) → ss ≡ ss_same → ts ≡ ts_same → AreSpansChanged c entries place ss_same ts_same
      → AreSpansChanged c entries place ss ts
  both_spans place ss ss_same ts ts_same first second spans = rw (first, second) spans

  source_spans : (mark : SourceMark) (place : ℕ) (back : List Named) (e : Named) (es : List Named) (s t : UnitSpan) (ss ts : List UnitSpan)
      → mark_at e (next es) ≡ mark → (e.kind == N_SO) ≡ true
      → Untold (outline_tell marks) (e ∷ back) es → place ≡ all_headers (e ∷ back) → length s.headers ≡ headers_ahead es → IsSpanChanged c entries place s t
      → ((n : ℕ) → IsNext n (e ∷ back) es → AreSpansChanged c entries n ss ts) → AreSpansChanged c entries place (span_step mark s ss) (span_step mark t ts)
  source_spans Directory place back e es s t ss ts is source untold at counted one rest =
      rest place (next_none place (all_headers (e ∷ back)) (headers_ahead es) at (mark_ahead marks Directory back e es (λ starts. absurd cc) is source untold))
  source_spans Start place back e es s t ss ts is source untold at counted one rest =
      (one, rest (place + length s.headers) (next_unit place (all_headers (e ∷ back)) (headers_ahead es) (length s.headers) at counted))
  source_spans Stop place back e es s t ss ts is source untold at counted one rest =
      rest place (next_none place (all_headers (e ∷ back)) (headers_ahead es) at (mark_ahead marks Stop back e es (λ starts. absurd cc) is source untold))
  source_spans NoMark place back e es s t ss ts is source untold at counted one rest = absurd (no_mark (e.kind == N_SO) (is_empty e.name) _ is source)

  -- where an entry goes there is no directory
  no_directory : (directory : List ℕ) (back : List Named) (e : Named) → GoesOut c back e → ((directory ≡ []) ⊎ (open_places back ≡ [])) → directory ≡ []
  no_directory directory back e out either = elim either [
    | inl none ↦ none
    | inr closed ↦
        let kept : is_kept_in c (range_in back 0) ≡ true = ap (is_kept_in c) (range_open back 0 ∙ ap (λ places. slice_get places 0) closed) in
        let gone : is_kept_in c (range_in back 0) ≡ false = out.gone in
        absurd cc
  ]

  -- the spans after an entry that stays
  abbrev MoreSpans : List Turn → ℕ → ℕ → Named → List Named → Type 0
  MoreSpans ts p q e back = (directory : List ℕ) (place : ℕ) → IsNext place (e ∷ back) (before ts) → ((directory ≡ []) ⊎ (open_places (e ∷ back) ≡ []))
      → AreSpansChanged c entries place (units_from text_end directory (p + 1) (before ts)) (units_from text_end directory (q + 1) (after ts))

  stays_spans : (source : Bool) (ts : List Turn) (back new : List Named) (e : Named) (directory : List ℕ) (p q place : ℕ) → (e.kind == N_SO) ≡ source
      → Walk c (e ∷ back) (e ∷ new) ts
      → Untold (outline_tell marks) (e ∷ back) (before ts) → drop p entries ≡ e ∷ before ts → drop q (changed c entries) ≡ e ∷ after ts
      → IsNext place back (e ∷ before ts)
      → MoreSpans ts p q e back → AreSpansChanged c entries place (units_from text_end directory p (e ∷ before ts)) (units_from text_end directory q (e ∷ after ts))
  stays_spans true ts back new e directory p q place source walk untold at at_new is_next rest =
      let here_place = next_source place back e (before ts) source is_next in
      both_spans place _ _ _ _ refl
      (ap (λ m. span_step m (span_at text_end directory q e (after ts)) (units_from text_end (directory_of m e.name) (q + 1) (after ts))) (mark_after c ts back new e walk))
      (source_spans (mark_at e (next (before ts))) place back e (before ts) (span_at text_end directory p e (before ts)) (span_at text_end directory q e (after ts)) _ _ refl source untold here_place
      (headers_counted (p + 1) (before ts)) (unit_changed ts directory p q place back new e source walk untold at at_new here_place)
      (λ n next_is. rest (directory_of (mark_at e (next (before ts))) e.name) n next_is (inr (source_places e back source))))
  stays_spans false ts back new e directory p q place source walk untold at at_new is_next rest =
      both_spans place _ _ _ _ (no_unit text_end directory p e (before ts) source) (no_unit text_end directory q e (after ts) source)
      (rest [] place (next_more place back e (before ts) source is_next) (inl refl))

  spans_after : (ts : List Turn) (back new : List Named) (directory : List ℕ) (p q place : ℕ) → Walk c back new ts
      → Untold (outline_tell marks) back (before ts)
      → drop p entries ≡ before ts → drop q (changed c entries) ≡ after ts → IsNext place back (before ts) → ((directory ≡ []) ⊎ (open_places back ≡ []))
      → AreSpansChanged c entries place (units_from text_end directory p (before ts)) (units_from text_end directory q (after ts))
  spans_after [] back new directory p q place walk untold at at_new is_next either = tt
  spans_after (marked e f ∷ ts) back new directory p q place walk untold at at_new is_next either =
      both_spans place _ _ _ _ (no_unit text_end directory p e (before ts) walk.0.first.source) (no_unit text_end directory q f (after ts) walk.0.second.source)
      (spans_after ts (e ∷ back) (f ∷ new) [] (p + 1) (q + 1) place walk.2 untold.1 (drop_next entries p e (before ts) at) (drop_next (changed c entries) q f (after ts) at_new)
      (next_more place back e (before ts) walk.0.first.source is_next) (inl refl))
  spans_after (stays e ∷ ts) back new directory p q place walk untold at at_new is_next either =
      stays_spans (e.kind == N_SO) ts back new e directory p q place refl walk.2 untold.1 at at_new is_next
      (λ directory_new n next_is more. spans_after ts (e ∷ back) (e ∷ new) directory_new (p + 1) (q + 1) n walk.2 untold.1
      (drop_next entries p e (before ts) at) (drop_next (changed c entries) q e (after ts) at_new) next_is more)
  spans_after (goes_out e ∷ ts) back new directory p q place walk untold at at_new is_next either =
      both_spans place _ _ _ _ (no_unit text_end directory p e (before ts) walk.0.source) (ap (λ d. units_from text_end d q (after ts)) (no_directory directory back e walk.0 either))
      (spans_after ts (e ∷ back) new [] (p + 1) q place walk.2 untold.1 (drop_next entries p e (before ts) at) at_new (next_more place back e (before ts) walk.0.source is_next) (inl refl))

-- ---- whole lists

module _ (c : Change) (marks : Marks) (text_end : ℕ) (entries : List Named) (no_fault : OutlineFault marks entries None) where
  untold : Untold (outline_tell marks) [] entries
  untold = fault-untold marks entries no_fault

  all_turns : List Turn
  all_turns = turns c [] entries

  -- the list is walked from its first entry
  all_walked : Walk c [] [] all_turns
  unfolding all_turns
  all_walked = walk c entries (outline_matched c marks entries untold)

  all_before : entries ≡ before all_turns
  unfolding all_turns
  all_before = sym (before-turns c [] entries)

  all_after : changed c entries ≡ after all_turns
  unfolding all_turns
  all_after = sym (after-turns c [] entries)

  untold_before : Untold (outline_tell marks) [] (before all_turns)
  untold_before = subst (λ es. Untold (outline_tell marks) [] es) all_before untold

  -- the first header of all is that of the first unit
  first_next : IsNext 0 [] (before all_turns)
  first_next = next_none 0 0 (headers_ahead (before all_turns)) refl (none_ahead marks [] (before all_turns) untold_before refl)

  nothing_before : UnitLocalsGo c marks text_end entries [] 0 (before all_turns)
  nothing_before within = absurd cc

  -- the outline of the changed list has no fault, where of the stabs of units only N_LSYM stabs go
  no_fault_after : LocalsGo c entries 0 (units_of text_end entries) → OutlineFault Image (changed c entries) None
  unfolding all_turns
  no_fault_after locals = changed_outline c marks entries untold (no_block c marks text_end entries all_turns [] [] [] 0 all_walked untold_before all_before (record {
    place = 0;
    is_next = first_next;
    here = nothing_before;
    later = subst (λ es. LocalsGo c entries 0 (units_from text_end [] 0 es)) all_before locals;
  }))

  -- its units are those of the list, changed
  units_after : AreSpansChanged c entries 0 (units_of text_end entries) (units_of text_end (changed c entries))
  units_after = both_spans c marks text_end entries 0 _ _ _ _ (ap (units_from text_end [] 0) all_before) (ap (units_from text_end [] 0) all_after)
      (spans_after c marks text_end entries all_turns [] [] [] 0 0 0 all_walked untold_before all_before all_after first_next (inl refl))

pub changed_no_fault : (marks : Marks) (c : Change) (text_end : ℕ) (entries : List Named) → OutlineFault marks entries None
    → LocalsGo c entries 0 (units_of text_end entries)
    → OutlineFault Image (changed c entries) None
changed_no_fault marks c text_end entries no_fault locals = no_fault_after c marks text_end entries no_fault locals

pub changed_spans : (marks : Marks) (c : Change) (text_end : ℕ) (entries : List Named) → OutlineFault marks entries None
    → LocalsGo c entries 0 (units_of text_end entries)
    → AreSpansChanged c entries 0 (units_of text_end entries) (units_of text_end (changed c entries))
changed_spans marks c text_end entries no_fault locals = units_after c marks text_end entries no_fault

-- ---- length

one_at_most : (header stab kept : Bool) (e f : Named) → length (cond header (f ∷ []) (cond stab (cond kept (e ∷ []) []) (e ∷ []))) ≤ 1
one_at_most true stab kept e f = omega arith
one_at_most false true true e f = omega arith
one_at_most false true false e f = omega arith
one_at_most false false kept e f = omega arith

both_fewer : (n m a b : ℕ) → n ≤ 1 → m ≤ b → a ≡ n + m → a ≤ suc b
both_fewer n m a b one more is = omega arith

no_more_from : (c : Change) (back es : List Named) → length (changed_from c back es) ≤ length es
no_more_from c back [] = omega arith
no_more_from c back (e ∷ es) = both_fewer (length (changed_at c back e)) (length (changed_from c (e ∷ back) es)) _ (length es)
    (one_at_most (is_header e.kind) (is_stab e.kind) (is_kept_in c (range_in back 0)) e (mark_changed c (all_headers back) e)) (no_more_from c (e ∷ back) es)
    (length-append (changed_at c back e) (changed_from c (e ∷ back) es))

-- the changed list is no longer than the list
pub no_more : (c : Change) (entries : List Named) → length (changed c entries) ≤ length entries
no_more c entries = no_more_from c [] entries
