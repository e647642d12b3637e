-- The stabs of a unit of a changed list: those that are left are read as they were. And of those that go none is a bracket, where all
-- are N_LSYM stabs.
use Rattle.std.proofs.Common.{◌≡◌, ℕ, ◌+◌, ◌⊎◌, inl, inr, Bool, true, false, cond, refl, sym, ap, ◌∙◌, subst, List, [], ◌∷◌, ◌++◌, filter}
use Rattle.std.specs.Prelude.{◌==◌, ◌&&◌, ◌||◌, not}
use Rattle.std.specs.List.{AllByRecursion}
use Rattle.st_base.specs.Stabs.{is_stab}
use Rattle.stab_codes.specs.declared.code.TheConstants.{N_SO, N_BINCL, N_EINCL, N_EXCL, N_LBRAC, N_RBRAC}
use Rattle.stab_codes.specs.Table.{carries_symbol}
use Rattle.nlist_codec.specs.declared.named.Named.{Named}
use Rattle.unit_outlines.specs.declared.kinds.Nesting.TheVariants.{Other}
use Rattle.unit_outlines.specs.declared.outline_types.Marks.{Marks}
use Rattle.unit_outlines.specs.Nests.{nesting_of, in_headers, in_blocks}
use Rattle.unit_outlines.specs.Runs.{continued}
use Rattle.unit_outlines.specs.Marks.{is_header, headers_in, file_step, file_in, is_plain, range_in, start_in}
use Rattle.unit_outlines.specs.Outlines.{outline_tell}
use Rattle.stab_units.specs.Units.{Stab, Filed, string_of, begun, stab_at, stabs_from, IsTextOf, AreRead}
use Rattle.stab_units.specs.Changing.{Change, is_kept_in, is_left, is_left_item, IsLocalIfGone}
use Rattle.stab_units.proofs.ForgetLemmas.{same_file}
use Rattle.stab_units.proofs.AlikeLemmas.{no_plain}
use Rattle.stab_units.proofs.ReadableLemmas.{begins, source_ends}
use Rattle.unit_outlines.proofs.UntoldLemmas.{Untold, Unbroken, untold-unbroken}
use Rattle.unit_outlines.proofs.EntryKinds.{is_kind, source_parts}
use Rattle.stab_units.proofs.KindLemmas.{carrier, continued_carries}
use Rattle.stab_units.proofs.ChangeSteps.{Turn, marked, stays, goes_out, before, after, left_file, IsBeside, Stays, GoesOut, Walk, same_continued, stays_file}
use Rattle.stab_units.proofs.ChangeFaults.{same_joined}

-- ---- after an N_SO entries are read as if they stood alone

module _ (o : Named) (far : List Named) (source : (o.kind == N_SO) ≡ true) where
  headers_in-far : (near : List Named) → headers_in (near ++ o ∷ far) ≡ headers_in near
  headers_in-far [] = ap (λ b. cond b 0 (cond (is_header o.kind) (headers_in far + 1) (headers_in far))) source
  headers_in-far (e ∷ near) = ap (λ n. cond (e.kind == N_SO) 0 (cond (is_header e.kind) (n + 1) n)) (headers_in-far near)

  file_in-far : (near : List Named) (ends : ℕ) → file_in (near ++ o ∷ far) ends ≡ file_in near ends
  file_in-far [] ends = ap (λ s. file_step s ends (headers_in (o ∷ far)) (file_in far)) (source_parts o.kind source)
  file_in-far (e ∷ near) ends = same_file (in_headers e) ends _ _ (file_in (near ++ o ∷ far)) (file_in near) (headers_in-far (e ∷ near)) (file_in-far near)

  continued-far : (near : List Named) (e : Named) → continued (near ++ o ∷ far) e ≡ continued near e
  continued-far [] e = source_ends o e far source
  continued-far (d ∷ near) e = refl

  stabs_from-near : (near : List Named) (p : ℕ) (es : List Named) → stabs_from (near ++ o ∷ far) p es ≡ stabs_from near p es
  stabs_from-near near p [] = refl
  stabs_from-near near p (e ∷ es) =
      let back = near ++ o ∷ far in
      ap (λ b. cond (e.kind == N_SO) [] (begun (is_plain e.kind && not b) e p (file_in back 0) es ++ stabs_from (e ∷ back) (p + 1) es)) (continued-far near e)
      ∙ ap (λ n. cond (e.kind == N_SO) [] (begun (is_plain e.kind && not (continued near e)) e p n es ++ stabs_from (e ∷ back) (p + 1) es)) (file_in-far near 0)
      ∙ ap (λ ss. cond (e.kind == N_SO) [] (stab_at near p e es ++ ss)) (stabs_from-near (e ∷ near) (p + 1) es)

  pub stabs_from-far : (p : ℕ) (es : List Named) → stabs_from (o ∷ far) p es ≡ stabs_from [] p es
  stabs_from-far p es = stabs_from-near [] p es

-- ---- one entry more

-- there are none after an N_SO
pub source_stabs : (back : List Named) (p : ℕ) (e : Named) (es : List Named) → (e.kind == N_SO) ≡ true → stabs_from back p (e ∷ es) ≡ []
source_stabs back p e es source = ap (λ b. cond b [] (stab_at back p e es ++ stabs_from (e ∷ back) (p + 1) es)) source

pub more_stabs : (back : List Named) (p : ℕ) (e : Named) (es : List Named) → (e.kind == N_SO) ≡ false
    → stabs_from back p (e ∷ es) ≡ stab_at back p e es ++ stabs_from (e ∷ back) (p + 1) es
more_stabs back p e es source = ap (λ b. cond b [] (stab_at back p e es ++ stabs_from (e ∷ back) (p + 1) es)) source

pub no_stabs : (back : List Named) (p : ℕ) (e : Named) (es : List Named) → (e.kind == N_SO) ≡ false → is_plain e.kind ≡ false
    → stabs_from back p (e ∷ es) ≡ stabs_from (e ∷ back) (p + 1) es
no_stabs back p e es source plain = more_stabs back p e es source
    ∙ ap (λ b. begun (b && not (continued back e)) e p (file_in back 0) es ++ stabs_from (e ∷ back) (p + 1) es) plain

-- it is in the unit of the one before it
pub same_start : (e : Named) (back : List Named) → (e.kind == N_SO) ≡ false → start_in (e ∷ back) ≡ start_in back
same_start e back source = rw source refl

-- ---- reading

none_read : (test : Filed → Bool) (items : List Filed) → AreRead [] items → AreRead [] (filter test items)
none_read test [] read = tt
none_read test (item ∷ items) read = absurd read

-- the stab of an entry that stays is read as it was
read_left : (b : Bool) (e : Named) (p q file : ℕ) (es fs : List Named) (more more_new : List Stab) (test : Filed → Bool) → string_of e fs ≡ string_of e es
    → ((f : Filed) → f.file ≡ file → test f ≡ true) → ((items : List Filed) → AreRead more items → AreRead more_new (filter test items))
    → (items : List Filed) → AreRead (begun b e p file es ++ more) items → AreRead (begun b e q file fs ++ more_new) (filter test items)
read_left false e p q file es fs more more_new test string left rest items read = rest items read
read_left true e p q file es fs more more_new test string left rest [] read = absurd read
read_left true e p q file es fs more more_new test string left rest (item ∷ items) read =
    let one = read.0 in
    let stab : Stab = record { entry = e; place = q; file = file; string = string_of e fs } in
    subst (λ b. AreRead (stab ∷ more_new) (cond b (item ∷ filter test items) (filter test items))) (sym (left item (ap (λ (f : Filed). f.file) one.is)))
    (record { text = one.text; is = one.is; reads = subst (λ s. IsTextOf (carries_symbol e.kind) s one.text) (sym string) one.reads }, rest items read.1)

-- and that of one that goes is left out
read_gone : (b : Bool) (e : Named) (p file : ℕ) (es : List Named) (more more_new : List Stab) (test : Filed → Bool)
    → ((f : Filed) → f.file ≡ file → test f ≡ false)
    → ((items : List Filed) → AreRead more items → AreRead more_new (filter test items))
    → (items : List Filed) → AreRead (begun b e p file es ++ more) items → AreRead more_new (filter test items)
read_gone false e p file es more more_new test gone rest items read = rest items read
read_gone true e p file es more more_new test gone rest [] read = absurd read
read_gone true e p file es more more_new test gone rest (item ∷ items) read =
    subst (λ b. AreRead more_new (cond b (item ∷ filter test items) (filter test items))) (sym (gone item (ap (λ (f : Filed). f.file) read.0.is))) (rest items read.1)

-- ---- entries that go

-- what is said of all stabs is said of those after an entry
pub all_behind : (P : Stab → Type 0) (b : Bool) (e : Named) (p file : ℕ) (es : List Named) (more : List Stab) → AllByRecursion P (begun b e p file es ++ more)
    → AllByRecursion P more
all_behind P true e p file es more all = all.1
all_behind P false e p file es more all = all

end_by : (stab begins ends excluded : Bool) → (stab && not (begins || (ends || excluded))) ≡ false → stab ≡ true → (begins || excluded) ≡ false → ends ≡ true
end_by true true ends excluded plain is header = absurd cc
end_by true false true excluded plain is header = refl
end_by true false false true plain is header = absurd cc
end_by true false false false plain is header = absurd cc
end_by false begins ends excluded plain is header = absurd cc

not_begun : (plain going : Bool) → (plain && not going) ≡ false → (plain ≡ false) ⊎ (going ≡ true)
not_begun true true is = inr refl
not_begun true false is = absurd cc
not_begun false going is = inl refl

module _ (c : Change) where
  left_test : (start : ℕ) (back : List Named) (b : Bool) → start_in back ≡ start → is_kept_in c (range_in back 0) ≡ b → (f : Filed) → f.file ≡ file_in back 0
      → is_left_item c start f ≡ b
  left_test start back b is kept f file = ap (is_left c start) file ∙ ap (λ n. is_left c n (file_in back 0)) (sym is) ∙ left_file c back ∙ kept

  -- an entry that goes is no bracket, where the stab that it begins is an N_LSYM
  gone_by : (b : Bool) (back : List Named) (e : Named) (p : ℕ) (es : List Named) (more : List Stab) → begins back e ≡ b → GoesOut c back e
      → AllByRecursion (IsLocalIfGone c (start_in back)) (begun b e p (file_in back 0) es ++ more) → in_blocks e ≡ Other
  gone_by true back e p es more is out all = ap (nesting_of N_LBRAC N_RBRAC) (all.0 (left_file c back ∙ out.gone))
  gone_by false back e p es more is out all = elim (not_begun (is_plain e.kind) (continued back e) is) [
    | inl other ↦ ap (nesting_of N_LBRAC N_RBRAC) (is_kind e.kind N_EINCL
        (end_by (is_stab e.kind) (e.kind == N_BINCL) (e.kind == N_EINCL) (e.kind == N_EXCL) other out.stab out.header))
    | inr going ↦ (carrier e.kind (continued_carries back e going)).blocks
  ]

  pub gone_block : (back : List Named) (e : Named) (p : ℕ) (es : List Named) (more : List Stab) → GoesOut c back e
      → AllByRecursion (IsLocalIfGone c (start_in back)) (stab_at back p e es ++ more) → in_blocks e ≡ Other
  gone_block back e p es more out all = gone_by (begins back e) back e p es more refl out all

  -- ---- the stabs of a unit

  -- the stab that an entry begins, in both
  same_begun : (back new : List Named) (q : ℕ) (e : Named) (fs : List Named) → Stays c back e → is_kept_in c (range_in back 0) ≡ true → IsBeside c back new
      → stab_at new q e fs ≡ begun (begins back e) e q (file_in back 0) fs
  same_begun back new q e fs stay kept beside =
      ap (λ b. begun (is_plain e.kind && not b) e q (file_in new 0) fs) (same_continued c back new e stay beside)
      ∙ ap (λ n. begun (begins back e) e q n fs) (stays_file c back new kept beside)

  stays_read : (source stab : Bool) (ts : List Turn) (back new : List Named) (e : Named) (p q start : ℕ) → (e.kind == N_SO) ≡ source → is_stab e.kind ≡ stab
      → start_in back ≡ start
      → Stays c back e → IsBeside c back new → Walk c (e ∷ back) (e ∷ new) ts → Unbroken (e ∷ before ts)
      → (source ≡ false → (items : List Filed) → AreRead (stabs_from (e ∷ back) (p + 1) (before ts)) items → AreRead (stabs_from (e ∷ new) (q + 1) (after ts)) (filter (is_left_item c start) items))
      → (items : List Filed) → AreRead (stabs_from back p (e ∷ before ts)) items
      → AreRead (stabs_from new q (e ∷ after ts)) (filter (is_left_item c start) items)
  stays_read true stab ts back new e p q start source is in_unit stay beside walk whole rest items read =
      subst (λ ss. AreRead ss (filter (is_left_item c start) items)) (sym (source_stabs new q e (after ts) source))
      (none_read (is_left_item c start) items (subst (λ ss. AreRead ss items) (source_stabs back p e (before ts) source) read))
  stays_read false false ts back new e p q start source is in_unit stay beside walk whole rest items read =
      let plain = no_plain e.kind is in
      subst (λ ss. AreRead ss (filter (is_left_item c start) items)) (sym (no_stabs new q e (after ts) source plain))
      (rest refl items (subst (λ ss. AreRead ss items) (no_stabs back p e (before ts) source plain) read))
  stays_read false true ts back new e p q start source is in_unit stay beside walk whole rest items read =
      let kept = stay.kept is in
      subst (λ ss. AreRead ss (filter (is_left_item c start) items))
      (sym (more_stabs new q e (after ts) source ∙ ap (λ ss. ss ++ stabs_from (e ∷ new) (q + 1) (after ts)) (same_begun back new q e (after ts) stay kept beside)))
      (read_left (begins back e) e p q (file_in back 0) (before ts) (after ts) (stabs_from (e ∷ back) (p + 1) (before ts)) (stabs_from (e ∷ new) (q + 1) (after ts)) (is_left_item c start)
      (ap (λ s. cond (carries_symbol e.kind) s e.name) (same_joined c ts back new e stay walk whole)) (left_test start back true in_unit kept) (rest refl) items
      (subst (λ ss. AreRead ss items) (more_stabs back p e (before ts) source) read))

  -- those that are left are read as they were
  pub stabs_after : (marks : Marks) (ts : List Turn) (back new : List Named) (p q start : ℕ) → start_in back ≡ start → Walk c back new ts
      → Untold (outline_tell marks) back (before ts)
      → (items : List Filed) → AreRead (stabs_from back p (before ts)) items → AreRead (stabs_from new q (after ts)) (filter (is_left_item c start) items)
  stabs_after marks [] back new p q start is walk untold items read = none_read (is_left_item c start) items read
  stabs_after marks (marked e f ∷ ts) back new p q start is walk untold items read =
      let first = walk.0.first in let second = walk.0.second in
      subst (λ ss. AreRead ss (filter (is_left_item c start) items)) (sym (no_stabs new q f (after ts) second.source second.plain))
      (stabs_after marks ts (e ∷ back) (f ∷ new) (p + 1) (q + 1) start (same_start e back first.source ∙ is) walk.2 untold.1 items
      (subst (λ ss. AreRead ss items) (no_stabs back p e (before ts) first.source first.plain) read))
  stabs_after marks (stays e ∷ ts) back new p q start is walk untold items read =
      stays_read (e.kind == N_SO) (is_stab e.kind) ts back new e p q start refl refl is walk.0 walk.1 walk.2 (untold-unbroken marks back (e ∷ before ts) untold)
      (λ source. stabs_after marks ts (e ∷ back) (e ∷ new) (p + 1) (q + 1) start (same_start e back source ∙ is) walk.2 untold.1) items read
  stabs_after marks (goes_out e ∷ ts) back new p q start is walk untold items read =
      read_gone (begins back e) e p (file_in back 0) (before ts) (stabs_from (e ∷ back) (p + 1) (before ts)) (stabs_from new q (after ts)) (is_left_item c start)
      (left_test start back false is walk.0.gone)
      (stabs_after marks ts (e ∷ back) new (p + 1) q start (same_start e back walk.0.source ∙ is) walk.2 untold.1) items
      (subst (λ ss. AreRead ss items) (more_stabs back p e (before ts) walk.0.source) read)
