-- What a run promises, from what was decided and how it was carried out.
use Rattle.std.proofs.Common.{◌≡◌, ◌≢◌, ℕ, Bool, true, false, cond, ◌⊎◌, inl, inr, eqb, List, [], Option, Some, None, refl, sym, ap, subst, ◌∙◌}
use Rattle.std.specs.Prelude.{IfSome}
use Rattle.std.proofs.lemmas.Bool.{eqb-true, eqb-false}
use Rattle.std.proofs.lemmas.List.{append-nil}
use Rattle.std.specs.FinMap.{get, insert, get-insert}
use Rattle.std.specs.Ordering.{nat_cmp, eq_by_cmp}
use Rattle.std.specs.Cmp.Lexicographic.{slice_cmp, nat_list_cmp_total}
use Rattle.std.proofs.lemmas.Map.Views.{tells_apart}
use Rattle.std.proofs.lemmas.Map.Lookups.{exact_bytes}
use Rattle.outside.specs.Causes.{Contents, Rose, Stores, Puts}
use Rattle.outside.specs.declared.files.Stored.{Stored}
use Rattle.outside.specs.declared.files.Stored.TheVariants as answers
use Rattle.outside.specs.declared.sink.Put.{Put}
use Rattle.outside.specs.declared.sink.Put.TheVariants as put
use Rattle.file_commands.specs.declared.outcome.Content.{Content}
use Rattle.file_commands.specs.declared.outcome.Outcome.{Outcome}
use Rattle.file_commands.specs.declared.outcome.TheConstants.{DONE, USAGE, ABSENT, READ_FAULT, WRITE_FAULT, NO_MEMORY}
use Rattle.file_commands.specs.Outcomes.{usage, absent, read_fault, write_fault_text, contents_after, is_status}
use Rattle.file_commands.specs.RunCauses.{FilesSeen, Lacks, Gained, GainedFront, GainedOneFront}
use Rattle.stabs_tool.specs.Carrying.{Carried, Follows, Keeps, Prints, status_after}
use Rattle.stabs_tool.specs.Deciding.{Decided}
use Rattle.stabs_tool.specs.Promise.{IsDone, Promise}

which : (b : Bool) → (b ≡ true) ⊎ (b ≡ false)
which true = inl refl
which false = inr refl

-- a status is this one, or is another
is_or_not : (a b : ℕ) → (a ≡ b) ⊎ (a ≢ b)
is_or_not a b = elim (which (eqb a b)) [ inl e ↦ inl (eqb-true a b e) | inr e ↦ inr (eqb-false a b e) ]

eight_seven : ◌≡◌ {A = ℕ} NO_MEMORY WRITE_FAULT → ⊥
eight_seven e = absurd cc

six_zero : ◌≡◌ {A = ℕ} READ_FAULT DONE → ⊥
six_zero e = absurd cc

two_zero : ◌≡◌ {A = ℕ} USAGE DONE → ⊥
two_zero e = absurd cc

-- ---- one put

front_of_same : (old new : Option (List ℕ)) (bytes : List ℕ) → new ≡ old → GainedFront old new bytes
front_of_same None new bytes e = tt
front_of_same (Some w) new bytes e = ([], bytes, refl, e ∙ ap (λ (z : List ℕ). Some z) (sym (append-nil w)))

front_of_puts : (old new : Option (List ℕ)) (before now : ℕ) (bytes : List ℕ) (p : Put) → Puts old new before now bytes p → GainedFront old new bytes
front_of_puts None new before now bytes p h = tt
front_of_puts (Some w) new before now bytes put.Done h = (bytes, [], sym (append-nil bytes), h)
front_of_puts (Some w) new before now bytes put.Failed h = h.0
front_of_puts (Some w) new before now bytes put.Memory h = front_of_same (Some w) new bytes h

gained_of_puts : (old new : Option (List ℕ)) (before now : ℕ) (bytes : List ℕ) → Puts old new before now bytes put.Done → Gained old new bytes
gained_of_puts None new before now bytes h = tt
gained_of_puts (Some w) new before now bytes h = h

rose_of_puts : (old new : Option (List ℕ)) (before now : ℕ) (bytes : List ℕ) → Puts old new before now bytes put.Failed → Rose before now
rose_of_puts None new before now bytes h = h.1
rose_of_puts (Some w) new before now bytes h = h.1

module _ (old new : Option (List ℕ)) (before now : ℕ) (bytes : List ℕ) (status result : ℕ) where
  -- a status that is neither 7 nor 8 is the one that was to be answered, and all was printed
  pub print_good : (p : Put) → Puts old new before now bytes p → result ≡ status_after status p → result ≢ WRITE_FAULT → result ≢ NO_MEMORY → Gained old new bytes × (result ≡ status)
  print_good put.Done h e n7 n8 = (gained_of_puts old new before now bytes h, e)
  print_good put.Failed h e n7 n8 = absurd (n7 e)
  print_good put.Memory h e n7 n8 = absurd (n8 e)

  -- and so it is where the sink did not fail, or the run was out of memory
  print_calm : (p : Put) → Puts old new before now bytes p → result ≡ status_after status p → ¬ (Rose before now) → (result ≡ NO_MEMORY) ⊎ (Gained old new bytes × (result ≡ status))
  print_calm put.Done h e calm = inr ((gained_of_puts old new before now bytes h, e))
  print_calm put.Failed h e calm = absurd (calm (rose_of_puts old new before now bytes h))
  print_calm put.Memory h e calm = inl e

  -- the status 7 comes of the sink, where it was not to be answered
  print_seven : (p : Put) → Puts old new before now bytes p → result ≡ status_after status p → status ≢ WRITE_FAULT → result ≡ WRITE_FAULT → Rose before now
  print_seven put.Done h e ne seven = absurd (ne (sym e ∙ seven))
  print_seven put.Failed h e ne seven = rose_of_puts old new before now bytes h
  print_seven put.Memory h e ne seven = absurd (eight_seven (sym e ∙ seven))

-- a put answers a status of the table, where it was to answer one
after_put : (status result : ℕ) → is_status status ≡ true → (p : Put) → result ≡ status_after status p → is_status result ≡ true
after_put status result fine put.Done e = ap is_status e ∙ fine
after_put status result fine put.Failed e = ap is_status e
after_put status result fine put.Memory e = ap is_status e

-- ---- one store

stores_done : (c d : Option Contents) (b n : ℕ) (name bytes : List ℕ) (m : Contents) → c ≡ Some m → Stores c d b n name bytes answers.Done → d ≡ Some (insert m name bytes)
stores_done c d b n name bytes m e h = let k : Stores (Some m) d b n name bytes answers.Done = subst (λ (z : Option Contents). Stores z d b n name bytes answers.Done) e h in k

stores_rose : (c d : Option Contents) (b n : ℕ) (name bytes : List ℕ) → Stores c d b n name bytes answers.Failed → Rose b n
stores_rose None d b n name bytes h = h.1
stores_rose (Some m) d b n name bytes h = h.1

stores_memory : (c d : Option Contents) (b n : ℕ) (name bytes : List ℕ) → Stores c d b n name bytes answers.Memory → d ≡ c
stores_memory None d b n name bytes h = h
stores_memory (Some m) d b n name bytes h = h

stores_untold : (d : Option Contents) (b n : ℕ) (name bytes : List ℕ) (s : Stored) → Stores None d b n name bytes s → d ≡ None
stores_untold d b n name bytes answers.Done h = h
stores_untold d b n name bytes answers.Failed h = h.0
stores_untold d b n name bytes answers.Memory h = h

get_same : (c m : Contents) (other : List ℕ) → Some c ≡ Some m → get c other ≡ get m other
get_same c m other e = let k : c ≡ m = cc in ap (λ (z : Contents). get z other) k

-- the contents of another name stay where one is stored
insert_others : (m : Contents) (name bytes other : List ℕ) → other ≢ name → get (insert m name bytes) other ≡ get m other
insert_others m name bytes other ne =
    elim (which (eq_by_cmp (slice_cmp nat_cmp) other name)) [
      | inl e ↦ absurd (ne (tells_apart exact_bytes other name e))
      | inr e ↦ get-insert nat_list_cmp_total m name bytes other ∙ ap (λ (b : Bool). cond b (Some bytes) (get m other)) e
    ]

stores_others : (Writes : List ℕ → Type 0) (c d : Option Contents) (b n : ℕ) (name bytes : List ℕ) (s : Stored) (m : Contents) → Writes name → c ≡ Some m → Stores c d b n name bytes s
    → (end : Contents) × (d ≡ Some end) × ((other : List ℕ) → ¬ (Writes other) → get end other ≡ get m other)
stores_others Writes None d b n name bytes s m w e x = absurd cc
stores_others Writes (Some c) d b n name bytes answers.Done m w e x =
    (insert c name bytes, x, λ other no. insert_others c name bytes other (λ q. no (subst Writes (sym q) w)) ∙ get_same c m other e)
stores_others Writes (Some c) None b n name bytes answers.Failed m w e x = absurd x.0
stores_others Writes (Some c) (Some end) b n name bytes answers.Failed m w e x =
    (end, refl, λ other no. x.0 other (λ q. no (subst Writes (sym q) w)) ∙ get_same c m other e)
stores_others Writes (Some c) d b n name bytes answers.Memory m w e x = (c, x, λ other no. get_same c m other e)

module _ (g h : FilesSeen) where
  keeps_last : (k : Option Content) (s : Stored) → Keeps k g h s → h.last ≡ g.last
  keeps_last None s x = ap (λ (z : FilesSeen). z.last) x.1
  keeps_last (Some k) s x = x.3

  keeps_loads : (k : Option Content) (s : Stored) → Keeps k g h s → h.loads ≡ g.loads
  keeps_loads None s x = ap (λ (z : FilesSeen). z.loads) x.1
  keeps_loads (Some k) s x = x.2

  keeps_none : (k : Option Content) (s : Stored) → k ≡ None → Keeps k g h s → (s ≡ answers.Done) × (h ≡ g)
  keeps_none k s e x = let y : Keeps None g h s = subst (λ (z : Option Content). Keeps z g h s) e x in y

  keeps_done : (k : Option Content) (m : Contents) → g.held ≡ Some m → Keeps k g h answers.Done → h.held ≡ Some (contents_after m k)
  keeps_done None m e x = ap (λ (z : FilesSeen). z.held) x.1 ∙ e
  keeps_done (Some k) m e x = stores_done g.held h.held g.stores h.stores k.name k.bytes m e x.0

  keeps_rose : (Writes : List ℕ → Type 0) (k : Option Content) → IfSome k (λ k. Writes k.name) → Keeps k g h answers.Failed → Rose g.stores h.stores × ((name : List ℕ) × Writes name)
  keeps_rose Writes None w x = let e : answers.Failed ≡ answers.Done = x.0 in absurd cc
  keeps_rose Writes (Some k) w x = (stores_rose g.held h.held g.stores h.stores k.name k.bytes x.0, (k.name, w))

  keeps_memory : (k : Option Content) → Keeps k g h answers.Memory → h.held ≡ g.held
  keeps_memory None x = ap (λ (z : FilesSeen). z.held) x.1
  keeps_memory (Some k) x = stores_memory g.held h.held g.stores h.stores k.name k.bytes x.0

  keeps_untold : (k : Option Content) (s : Stored) → g.held ≡ None → Keeps k g h s → h.held ≡ None
  keeps_untold None s e x = ap (λ (z : FilesSeen). z.held) x.1 ∙ e
  keeps_untold (Some k) s e x = stores_untold h.held g.stores h.stores k.name k.bytes s (subst (λ (z : Option Contents). Stores z h.held g.stores h.stores k.name k.bytes s) e x.0)

  keeps_others : (Writes : List ℕ → Type 0) (k : Option Content) (s : Stored) → IfSome k (λ k. Writes k.name) → (m : Contents) → g.held ≡ Some m → Keeps k g h s
      → (end : Contents) × (h.held ≡ Some end) × ((other : List ℕ) → ¬ (Writes other) → get end other ≡ get m other)
  keeps_others Writes None s w m e x = (m, ap (λ (z : FilesSeen). z.held) x.1 ∙ e, λ other no. refl)
  keeps_others Writes (Some k) s w m e x = stores_others Writes g.held h.held g.stores h.stores k.name k.bytes s m w e x.0

-- ---- what was decided, and then carried out

module _ (P : Contents → Outcome → Type 0) (Reads Writes : List ℕ → Type 0) (Wrong : ℕ → Type 0)
    (one : (m : Contents) (r other : Outcome) → P m r → P m other → r ≡ other)
    (f g : FilesSeen) (held : g.held ≡ f.held) (stores : g.stores ≡ f.stores) where
  module _ (o : Outcome) (d : Decided P Reads Writes Wrong f g o) (h : FilesSeen) (old new : Option (List ℕ)) (before now result : ℕ) where
    abbrev K : Stored → Type 0
    K s = Keeps o.stored g h s

    abbrev A : Stored → Type 0
    A s = Follows o old new before now result s

    -- a status that is neither 7 nor 8 is the outcome's, and all was stored and printed
    ends_good : (s : Stored) → A s → result ≢ WRITE_FAULT → result ≢ NO_MEMORY → (s ≡ answers.Done) × (Gained old new o.text × (result ≡ o.status))
    ends_good answers.Done a n7 n8 = (refl, print_good old new before now o.text o.status result a.0 a.1 a.3 n7 n8)
    ends_good answers.Failed a n7 n8 = absurd (n7 (print_good old new before now write_fault_text WRITE_FAULT result a.0 a.1 a.3 n7 n8).1)
    ends_good answers.Memory a n7 n8 = absurd (n8 a.2)

    good_done : (s : Stored) → K s → A s → (m : Contents) → f.held ≡ Some m → result ≢ READ_FAULT → result ≢ WRITE_FAULT → result ≢ NO_MEMORY → IsDone P m h old new result
    good_done s k a m told n6 n7 n8 =
        let e = ends_good s a n7 n8 in (
          o,
          d.defined (λ six. n6 (e.1.1 ∙ six)) m told,
          e.1.1,
          e.1.0,
          keeps_done g h o.stored m (held ∙ told) (subst K e.0 k),
        )

    not_read : ¬ (Rose f.loads g.loads) → o.status ≢ READ_FAULT
    not_read calm = λ six. calm (d.read six).0

    -- the files' counts at the end
    rose_loads : (s : Stored) → K s → Rose f.loads g.loads → Rose f.loads h.loads
    rose_loads s k r = subst (λ (z : ℕ). Rose f.loads z) (sym (keeps_loads g h o.stored s k)) r

    rose_stores : K answers.Failed → Rose f.stores h.stores × ((name : List ℕ) × Writes name)
    rose_stores k = let r = keeps_rose g h Writes o.stored d.stored_name k in (subst (λ (z : ℕ). Rose z h.stores) stores r.0, r.1)

    by_complete : (s : Stored) → K s → A s → (m : Contents) → f.held ≡ Some m → ¬ (Rose f.loads h.loads) → ¬ (Rose f.stores h.stores) → ¬ (Rose before now)
        → (result ≡ NO_MEMORY) ⊎ IsDone P m h old new result
    by_complete answers.Done k a m told c1 c2 c3 =
        elim (print_calm old new before now o.text o.status result a.0 a.1 a.3 c3) [
          | inl e ↦ inl e
          | inr e ↦ inr ((o, d.defined (not_read (λ r. c1 (rose_loads answers.Done k r))) m told, e.1, e.0, keeps_done g h o.stored m (held ∙ told) k))
        ]
    by_complete answers.Failed k a m told c1 c2 c3 = absurd (c2 (rose_stores k).0)
    by_complete answers.Memory k a m told c1 c2 c3 = inl a.2

    -- an outcome with nothing to store
    alone : (s : Stored) → K s → o.status ≢ DONE → (s ≡ answers.Done) × (h ≡ g)
    alone s k n0 = keeps_none g h o.stored s (d.stored_alone n0) k

    by_wrong : (s : Stored) → K s → A s → (at : ℕ) → Wrong at → ¬ (Rose before now) → (result ≡ NO_MEMORY) ⊎ (result ≡ USAGE)
    by_wrong s k a at w c =
        let two : o.status ≡ USAGE = d.wrong at w in
        let no : o.status ≢ DONE = λ z. absurd (two_zero (sym two ∙ z)) in
        let b : A answers.Done = subst A (alone s k no).0 a in
        elim (print_calm old new before now o.text o.status result b.0 b.1 b.3 c) [
          | inl e ↦ inl e
          | inr e ↦ inr (e.1 ∙ two)
        ]

    by_exact : (s : Stored) → K s → A s → (m : Contents) (r : Outcome) → f.held ≡ Some m → P m r → r.status ≢ DONE → result ≢ READ_FAULT → result ≢ NO_MEMORY → ¬ (Rose before now) → result ≡ r.status
    by_exact s k a m r told is n0 n6 n8 c =
        elim (is_or_not o.status READ_FAULT) [
          | inl six ↦ absurd (n6 (printed (λ z. six_zero (sym six ∙ z)) ∙ six))
          | inr o6 ↦
              let e : o ≡ r = one m o r (d.defined o6 m told) is in
              let st : o.status ≡ r.status = ap (λ (z : Outcome). z.status) e in
              printed (λ z. n0 (sym st ∙ z)) ∙ st
        ]
      where
        printed : o.status ≢ DONE → result ≡ o.status
        printed other =
            let b : A answers.Done = subst A (alone s k other).0 a in
            elim (print_calm old new before now o.text o.status result b.0 b.1 b.3 c) [
              | inl e ↦ absurd (n8 e)
              | inr e ↦ e.1
            ]

    -- what was gained of an outcome was gained of the one that it is
    usage_of : Gained old new o.text → (at : ℕ) × Wrong at × (o ≡ usage at) → (at : ℕ) × Wrong at × Gained old new (usage at).text
    usage_of g (at, w, e) = (at, w, subst (λ (z : Outcome). Gained old new z.text) e g)

    by_usage : (s : Stored) → A s → result ≡ USAGE → (at : ℕ) × Wrong at × Gained old new (usage at).text
    by_usage s a e =
        let w = ends_good s a (λ z. let q : ◌≡◌ {A = ℕ} USAGE WRITE_FAULT = sym e ∙ z in absurd cc) (λ z. let q : ◌≡◌ {A = ℕ} USAGE NO_MEMORY = sym e ∙ z in absurd cc) in
        usage_of w.1.0 (d.usage_alone (sym w.1.1 ∙ e))

    lacks_later : (c : Option Contents) (l n n' : ℕ) (t t' : Option (List ℕ)) (name : List ℕ) → n' ≡ n → t' ≡ t → Lacks c l n t name → Lacks c l n' t' name
    lacks_later None l n n' t t' name e e' x = (subst (λ (z : ℕ). Rose l z) (sym e) x.0, e' ∙ x.1)
    lacks_later (Some m) l n n' t t' name e e' x = x

    absent_of : h.loads ≡ g.loads → h.last ≡ g.last → Gained old new o.text
        → (name : List ℕ) × Reads name × (o ≡ absent name) × Lacks f.held f.loads g.loads g.last name
        → (name : List ℕ) × Reads name × Lacks f.held f.loads h.loads h.last name × Gained old new (absent name).text
    absent_of loads last gained (name, reads, e, lacks) =
        (name, reads, lacks_later f.held f.loads g.loads h.loads g.last h.last name loads last lacks, subst (λ (z : Outcome). Gained old new z.text) e gained)

    by_absent : (s : Stored) → K s → A s → result ≡ ABSENT → (name : List ℕ) × Reads name × Lacks f.held f.loads h.loads h.last name × Gained old new (absent name).text
    by_absent s k a e =
        let w = ends_good s a (λ z. let q : ◌≡◌ {A = ℕ} ABSENT WRITE_FAULT = sym e ∙ z in absurd cc) (λ z. let q : ◌≡◌ {A = ℕ} ABSENT NO_MEMORY = sym e ∙ z in absurd cc) in
        absent_of (keeps_loads g h o.stored s k) (keeps_last g h o.stored s k) w.1.0 (d.lacks (sym w.1.1 ∙ e))

    read_fault_of : Rose f.loads h.loads → h.last ≡ g.last → Gained old new o.text
        → (name : List ℕ) × (g.last ≡ Some name) × Reads name × (o ≡ read_fault name)
        → Rose f.loads h.loads × ((name : List ℕ) × (h.last ≡ Some name) × Reads name × Gained old new (read_fault name).text)
    read_fault_of rose last gained (name, was, reads, e) = (rose, (name, last ∙ was, reads, subst (λ (z : Outcome). Gained old new z.text) e gained))

    by_read_fault : (s : Stored) → K s → A s → result ≡ READ_FAULT
        → Rose f.loads h.loads × ((name : List ℕ) × (h.last ≡ Some name) × Reads name × Gained old new (read_fault name).text)
    by_read_fault s k a e =
        let w = ends_good s a (λ z. let q : ◌≡◌ {A = ℕ} READ_FAULT WRITE_FAULT = sym e ∙ z in absurd cc) (λ z. let q : ◌≡◌ {A = ℕ} READ_FAULT NO_MEMORY = sym e ∙ z in absurd cc) in
        let u = d.read (sym w.1.1 ∙ e) in
        read_fault_of (rose_loads s k u.0) (keeps_last g h o.stored s k) w.1.0 u.1

    by_write_fault : (s : Stored) → K s → A s → result ≡ WRITE_FAULT → Rose before now ⊎ (Rose f.stores h.stores × ((name : List ℕ) × Writes name))
    by_write_fault answers.Done k a e = inl (print_seven old new before now o.text o.status result a.0 a.1 a.3 d.not_write e)
    by_write_fault answers.Failed k a e = inr (rose_stores k)
    by_write_fault answers.Memory k a e = absurd (eight_seven (sym a.2 ∙ e))

    by_write_line : (s : Stored) → A s → result ≡ WRITE_FAULT → ¬ (Rose before now) → Gained old new write_fault_text
    by_write_line answers.Done a e c = absurd (c (print_seven old new before now o.text o.status result a.0 a.1 a.3 d.not_write e))
    by_write_line answers.Failed a e c =
        elim (print_calm old new before now write_fault_text WRITE_FAULT result a.0 a.1 a.3 c) [
          | inl z ↦ absurd (eight_seven (sym z ∙ e))
          | inr z ↦ z.0
        ]
    by_write_line answers.Memory a e c = absurd (eight_seven (sym a.2 ∙ e))

    -- the outcome is the one that is defined
    same : (m : Contents) (r : Outcome) → f.held ≡ Some m → P m r → o.status ≢ READ_FAULT → o ≡ r
    same m r told is n6 = one m o r (d.defined n6 m told) is

    by_stored : (s : Stored) → K s → A s → (m : Contents) (r : Outcome) → f.held ≡ Some m → P m r → result ≡ WRITE_FAULT → ¬ (Rose f.loads h.loads) → ¬ (Rose f.stores h.stores)
        → h.held ≡ Some (contents_after m r.stored)
    by_stored answers.Done k a m r told is e c1 c2 =
        keeps_done g h o.stored m (held ∙ told) k ∙ ap (λ (z : Outcome). Some (contents_after m z.stored)) (same m r told is (not_read (λ q. c1 (rose_loads answers.Done k q))))
    by_stored answers.Failed k a m r told is e c1 c2 = absurd (c2 (rose_stores k).0)
    by_stored answers.Memory k a m r told is e c1 c2 = absurd (eight_seven (sym a.2 ∙ e))

    prints_front : (bytes : List ℕ) (status : ℕ) → Prints old new before now bytes status result → GainedFront old new bytes
    prints_front bytes status a = front_of_puts old new before now bytes a.0 a.1

    by_front : (s : Stored) → K s → A s → (m : Contents) (r : Outcome) → f.held ≡ Some m → P m r → ¬ (Rose f.loads h.loads) → ¬ (Rose f.stores h.stores) → GainedFront old new r.text
    by_front answers.Done k a m r told is c1 c2 =
        subst (λ (z : Outcome). GainedFront old new z.text) (same m r told is (not_read (λ q. c1 (rose_loads answers.Done k q)))) (prints_front o.text o.status a)
    by_front answers.Failed k a m r told is c1 c2 = absurd (c2 (rose_stores k).0)
    by_front answers.Memory k a m r told is c1 c2 = front_of_same old new r.text a.0

    -- of the line of a read fault a front was gained
    read_front : h.last ≡ g.last → GainedFront old new o.text → (name : List ℕ) × (g.last ≡ Some name) × Reads name × (o ≡ read_fault name)
        → (name : List ℕ) × (h.last ≡ Some name) × GainedFront old new (read_fault name).text
    read_front last gained (name, was, reads, e) = (name, last ∙ was, subst (λ (z : Outcome). GainedFront old new z.text) e gained)

    by_one_front : (s : Stored) → K s → A s → (m : Contents) (r : Outcome) → f.held ≡ Some m → P m r → GainedOneFront h.last old new r.text
    by_one_front answers.Done k a m r told is =
        elim (is_or_not o.status READ_FAULT) [
          | inl six ↦ inl (read_front (keeps_last g h o.stored answers.Done k) (prints_front o.text o.status a) (d.read six).1)
          | inr n6 ↦ inr (inr (subst (λ (z : Outcome). GainedFront old new z.text) (same m r told is n6) (prints_front o.text o.status a)))
        ]
    by_one_front answers.Failed k a m r told is = inr (inl (prints_front write_fault_text WRITE_FAULT a))
    by_one_front answers.Memory k a m r told is = inr (inr (front_of_same old new r.text a.0))

    by_unchanged : (s : Stored) → K s → A s → result ≢ DONE → result ≢ WRITE_FAULT → result ≢ NO_MEMORY → h.held ≡ f.held
    by_unchanged s k a n0 n7 n8 =
        let w = ends_good s a n7 n8 in
        ap (λ (z : FilesSeen). z.held) (alone s k (λ z. n0 (w.1.1 ∙ z))).1 ∙ held

    by_whole : (s : Stored) → K s → (m : Contents) (r : Outcome) → f.held ≡ Some m → P m r → ¬ (Rose f.stores h.stores) → (h.held ≡ Some m) ⊎ (h.held ≡ Some (contents_after m r.stored))
    by_whole answers.Done k m r told is c =
        elim (is_or_not o.status READ_FAULT) [
          | inl six ↦ inl (ap (λ (z : FilesSeen). z.held) (alone answers.Done k (λ z. let q : ◌≡◌ {A = ℕ} READ_FAULT DONE = sym six ∙ z in absurd cc)).1 ∙ held ∙ told)
          | inr n6 ↦ inr (keeps_done g h o.stored m (held ∙ told) k ∙ ap (λ (z : Outcome). Some (contents_after m z.stored)) (same m r told is n6))
        ]
    by_whole answers.Failed k m r told is c = absurd (c (rose_stores k).0)
    by_whole answers.Memory k m r told is c = inl (keeps_memory g h o.stored k ∙ held ∙ told)

    -- the status is one of the table
    by_listed : (s : Stored) → A s → is_status result ≡ true
    by_listed answers.Done a = after_put o.status result d.status a.0 a.3
    by_listed answers.Failed a = after_put WRITE_FAULT result refl a.0 a.3
    by_listed answers.Memory a = ap is_status a.2

    by_untold : (s : Stored) → K s → f.held ≡ None → h.held ≡ None
    by_untold s k e = keeps_untold g h o.stored s (held ∙ e) k

    by_others : (s : Stored) → K s → (m : Contents) → f.held ≡ Some m → (end : Contents) × (h.held ≡ Some end) × ((other : List ℕ) → ¬ (Writes other) → get end other ≡ get m other)
    by_others s k m told = keeps_others g h Writes o.stored s d.stored_name m (held ∙ told) k

    pub promise_of : Carried o g h old new before now result → Promise P Reads Writes Wrong f h old new before now result
    promise_of (s, k, a) = record {
      listed = by_listed s a;
      complete = by_complete s k a;
      defined = good_done s k a;
      exact = by_exact s k a;
      usage_told = by_usage s a;
      wrong = by_wrong s k a;
      absent_told = by_absent s k a;
      read_fault_told = by_read_fault s k a;
      write_fault = by_write_fault s k a;
      write_line = by_write_line s a;
      stored = by_stored s k a;
      front = by_front s k a;
      one_front = by_one_front s k a;
      unchanged = by_unchanged s k a;
      others = by_others s k;
      whole = by_whole s k;
      untold = by_untold s k;
    }

  -- out of memory before anything was decided
  pub promise_of_nothing : (old new : Option (List ℕ)) (before : ℕ) → new ≡ old → Promise P Reads Writes Wrong f g old new before before NO_MEMORY
  promise_of_nothing old new before e = record {
    listed = refl;
    complete = λ m told c1 c2 c3. inl refl;
    defined = λ m told n6 n7 n8. absurd (n8 refl);
    exact = λ m r told is n0 n6 n8 c. absurd (n8 refl);
    usage_told = λ e. absurd cc;
    wrong = λ at w c. inl refl;
    absent_told = λ e. absurd cc;
    read_fault_told = λ e. absurd cc;
    write_fault = λ e. absurd cc;
    write_line = λ e. absurd cc;
    stored = λ m r told is e. absurd cc;
    front = λ m r told is c1 c2. front_of_same old new r.text e;
    one_front = λ m r told is. inr (inr (front_of_same old new r.text e));
    unchanged = λ n0 n7 n8. absurd (n8 refl);
    others = λ m told. (m, held ∙ told, λ other n. refl);
    whole = λ m r told is c. inl (held ∙ told);
    untold = λ e. held ∙ e;
  }
