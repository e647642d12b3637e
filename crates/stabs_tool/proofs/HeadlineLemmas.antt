-- The sentence of linking, from what a run promises: an accepted list has an outcome that is done, and an outcome that is done stores the
-- file of an image; and the sentence of asking, likewise.
use Rattle.std.proofs.Common.{◌≡◌, ◌≢◌, ◌⊎◌, inl, inr, ℕ, List, Option, Some, sym, ap, subst, ◌∙◌}
use Rattle.std.proofs.lemmas.Bool.{cases_eq}
use Rattle.outside.specs.Causes.{Contents, Rose}
use Rattle.query_text.specs.declared.query.Query.{Query}
use Rattle.bincl_match.specs.declared.mode.Mode.{Mode}
use Rattle.bincl_match.specs.declared.mode.Mode.TheVariants.{Merge}
use Rattle.command_line.specs.declared.command.Asked.{Asked}
use Rattle.command_line.specs.declared.command.Asked.TheVariants as asks
use Rattle.command_line.specs.declared.command.Command.TheVariants as commands
use Rattle.file_commands.specs.declared.outcome.Content.{Content}
use Rattle.file_commands.specs.declared.outcome.Outcome.{Outcome}
use Rattle.file_commands.specs.declared.outcome.TheConstants.{DONE, READ_FAULT, WRITE_FAULT, NO_MEMORY}
use Rattle.file_commands.specs.Outcomes.{contents_after}
use Rattle.file_commands.specs.RunCauses.{FilesSeen}
use Rattle.file_commands.specs.QueryOutcomes.{Means, IsOutcome}
use Rattle.stabs_tool.specs.Promise.{Promise}
use Rattle.file_commands.specs.ListImages.{IsAcceptedList, IsImageFile, IsAskedOf}
use Rattle.stabs_tool.specs.Headline.{StoresImage, TellsImage, AsksToLink, AsksOfList, IsStopped, Headline}

-- a status that is done is none of these
not_read : (result : ℕ) → result ≡ DONE → result ≢ READ_FAULT
not_read result is e = let q : ◌≡◌ {A = ℕ} DONE READ_FAULT = sym is ∙ e in absurd cc

not_write : (result : ℕ) → result ≡ DONE → result ≢ WRITE_FAULT
not_write result is e = let q : ◌≡◌ {A = ℕ} DONE WRITE_FAULT = sym is ∙ e in absurd cc

not_memory : (result : ℕ) → result ≡ DONE → result ≢ NO_MEMORY
not_memory result is e = let q : ◌≡◌ {A = ℕ} DONE NO_MEMORY = sym is ∙ e in absurd cc

module _ (one : (words : List (List ℕ)) (m : Contents) (o other : Outcome) → IsOutcome words m o → IsOutcome words m other → o ≡ other)
    (accepted : (mode : Mode) (base : ℕ) (out : List ℕ) (names : List (List ℕ)) (m : Contents) → IsAcceptedList mode base names m
    → (o : Outcome) × Means (asks.Command (commands.Link mode base out names)) m o × (o.status ≡ DONE))
    (done : (mode : Mode) (base : ℕ) (out : List ℕ) (names : List (List ℕ)) (m : Contents) (o : Outcome)
    → Means (asks.Command (commands.Link mode base out names)) m o → o.status ≡ DONE
    → (bytes : List ℕ) × IsImageFile mode base names m bytes × (o.stored ≡ Some (record { name = out; bytes = bytes })))
    (answered : (names : List (List ℕ)) (query : Query) (m : Contents) → IsAcceptedList Merge 0 names m
    → (o : Outcome) × Means (asks.Command (commands.Ask names query)) m o × (o.status ≡ DONE))
    (told : (names : List (List ℕ)) (query : Query) (m : Contents) (o : Outcome)
    → Means (asks.Command (commands.Ask names query)) m o → o.status ≡ DONE → IsAskedOf names query m o.text)
    (Reads Writes : List ℕ → Type 0) (Wrong : ℕ → Type 0) (words : List (List ℕ)) (f h : FilesSeen) (old new : Option (List ℕ)) (before now result : ℕ)
    (promise : Promise (IsOutcome words) Reads Writes Wrong f h old new before now result) where
  -- ---- an outcome that is done

  -- why writing failed
  write_cause : result ≡ WRITE_FAULT → Rose before now ⊎ Rose f.stores h.stores
  write_cause seven =
      elim (promise.write_fault seven) [
        | inl sink ↦ inl sink
        | inr store ↦ inr store.0
      ]

  module _ (m : Contents) (tells : f.held ≡ Some m) (o : Outcome) (means : IsOutcome words m o) (is_done : o.status ≡ DONE) where
    -- it is carried out, where nothing stopped the run
    carried : result ≢ READ_FAULT → result ≢ WRITE_FAULT → result ≢ NO_MEMORY → (result ≡ DONE) × (h.held ≡ Some (contents_after m o.stored))
    carried n6 n7 n8 =
        let d = promise.defined m tells n6 n7 n8 in
        let same : d.0 ≡ o = one words m d.0 o d.1 means in
        (d.2 ∙ ap (λ (z : Outcome). z.status) same ∙ is_done, d.4 ∙ ap (λ (z : Outcome). Some (contents_after m z.stored)) same)

    ends_done : (result ≡ DONE) ⊎ IsStopped f h before now result
    ends_done = by (cases_eq result READ_FAULT) (cases_eq result WRITE_FAULT) (cases_eq result NO_MEMORY)
      where
        by : (result ≡ READ_FAULT) ⊎ (result ≢ READ_FAULT) → (result ≡ WRITE_FAULT) ⊎ (result ≢ WRITE_FAULT) → (result ≡ NO_MEMORY) ⊎ (result ≢ NO_MEMORY)
            → (result ≡ DONE) ⊎ IsStopped f h before now result
        by six seven (inl eight) = inr (inl eight)
        by (inl six) seven (inr n8) = inr (inr (inl ((six, (promise.read_fault_told six).0))))
        by (inr n6) (inl seven) (inr n8) = inr (inr (inr ((seven, write_cause seven))))
        by (inr n6) (inr n7) (inr n8) = inl (carried n6 n7 n8).0

    held_done : ¬ (Rose f.loads h.loads) → ¬ (Rose f.stores h.stores) → (result ≡ NO_MEMORY) ⊎ (h.held ≡ Some (contents_after m o.stored))
    held_done loads stores = by (cases_eq result READ_FAULT) (cases_eq result WRITE_FAULT) (cases_eq result NO_MEMORY)
      where
        by : (result ≡ READ_FAULT) ⊎ (result ≢ READ_FAULT) → (result ≡ WRITE_FAULT) ⊎ (result ≢ WRITE_FAULT) → (result ≡ NO_MEMORY) ⊎ (result ≢ NO_MEMORY)
            → (result ≡ NO_MEMORY) ⊎ (h.held ≡ Some (contents_after m o.stored))
        by six seven (inl eight) = inl eight
        by (inl six) seven (inr n8) = absurd (loads (promise.read_fault_told six).0)
        by (inr n6) (inl seven) (inr n8) = inr (promise.stored m o tells means seven loads stores)
        by (inr n6) (inr n7) (inr n8) = inr (carried n6 n7 n8).1

  -- ---- linking

  module _ (mode : Mode) (base : ℕ) (out : List ℕ) (names : List (List ℕ)) (m : Contents) (asks_it : AsksToLink words f mode base out names m) where
    -- what is stored of an outcome that is done
    stores_of : (o : Outcome) → IsOutcome words m o → o.status ≡ DONE → h.held ≡ Some (contents_after m o.stored) → StoresImage mode base out names m h
    stores_of o means is_done held =
        let s = done mode base out names m o (subst (λ (a : Asked). Means a m o) asks_it.command means) is_done in
        (s.0, s.1, held ∙ ap (λ (k : Option Content). Some (contents_after m k)) s.2)

    -- the outcome of an accepted list
    list_outcome : IsAcceptedList mode base names m → (o : Outcome) × IsOutcome words m o × (o.status ≡ DONE)
    list_outcome list =
        let r = accepted mode base out names m list in
        (r.0, subst (λ (a : Asked). Means a m r.0) (sym asks_it.command) r.1, r.2)

    stores_list : IsAcceptedList mode base names m → ¬ (Rose f.loads h.loads) → ¬ (Rose f.stores h.stores) → (result ≡ NO_MEMORY) ⊎ StoresImage mode base out names m h
    stores_list list loads stores = let a = list_outcome list in by a.0 a.1 a.2 (held_done m asks_it.tells a.0 a.1 a.2 loads stores)
      where
        by : (o : Outcome) → IsOutcome words m o → o.status ≡ DONE → (result ≡ NO_MEMORY) ⊎ (h.held ≡ Some (contents_after m o.stored))
            → (result ≡ NO_MEMORY) ⊎ StoresImage mode base out names m h
        by o means is_done (inl eight) = inl eight
        by o means is_done (inr held) = inr (stores_of o means is_done held)

    ends_list : IsAcceptedList mode base names m → (result ≡ DONE) ⊎ IsStopped f h before now result
    ends_list list = let a = list_outcome list in ends_done m asks_it.tells a.0 a.1 a.2

    stored_list : result ≡ DONE → StoresImage mode base out names m h
    stored_list zero_status =
        let d = promise.defined m asks_it.tells (not_read result zero_status) (not_write result zero_status) (not_memory result zero_status) in
        stores_of d.0 d.1 (sym d.2 ∙ zero_status) d.4

  -- ---- asking

  module _ (names : List (List ℕ)) (query : Query) (m : Contents) (asks_it : AsksOfList words f names query m) where
    replies_list : IsAcceptedList Merge 0 names m → (result ≡ DONE) ⊎ IsStopped f h before now result
    replies_list list =
        let r = answered names query m list in
        ends_done m asks_it.tells r.0 (subst (λ (a : Asked). Means a m r.0) (sym asks_it.command) r.1) r.2

    told_list : result ≡ DONE → TellsImage names query m old new
    told_list zero_status =
        let d = promise.defined m asks_it.tells (not_read result zero_status) (not_write result zero_status) (not_memory result zero_status) in
        let o : Outcome = d.0 in
        (o.text, told names query m o (subst (λ (a : Asked). Means a m o) asks_it.command d.1) (sym d.2 ∙ zero_status), d.3)

  pub headline_of : Headline words f h old new before now result
  headline_of = record { stores = stores_list; ends = ends_list; stored = stored_list; replies = replies_list; told = told_list }
