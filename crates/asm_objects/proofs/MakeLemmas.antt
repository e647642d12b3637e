-- The object of statements without a fault: the limits that are checked before it is made are its own, and what was made is the object.
use Rattle.std.proofs.Common.{◌≡◌, ◌≢◌, ℕ, ◌+◌, ◌*◌, ◌<◌, ◌≤◌, Bool, true, false, List, [], ◌∷◌, length, map, Option, None, Some, Result, Ok, Err, refl, sym, ap, subst, ◌∙◌, arith, length-append}
use Rattle.std.specs.Prelude.{All, nat_le, max}
use Rattle.std.specs.List.{AllByRecursion}
use Rattle.std.proofs.lemmas.Bool.{leb-false, lt-leb}
use Rattle.std.proofs.lemmas.Option.{none-some}
use Rattle.std.proofs.lemmas.List.{length-map}
use Rattle.std.proofs.lemmas.List.Elements.{All-from_recursion}
use Rattle.st_base.specs.ByteOrder.{is_big}
use Rattle.st_base.specs.Faults.{fault_at, first_fault, unless}
use Rattle.st_base.specs.declared.fault.Fault.{Fault}
use Rattle.st_base.specs.declared.fault.Refused.{Refused}
use Rattle.st_base.specs.declared.fault.Refused.TheVariants as refused
use Rattle.st_base.specs.declared.fault.TheConstants.{TOO_LARGE}
use Rattle.st_base.specs.declared.order.Order.{Order}
use Rattle.st_base.specs.declared.sizes.TheConstants.{ENTRY_SIZE, FILE_LIMIT, GREATEST_ADDRESS}
use Rattle.nlist_codec.specs.declared.named.Named.{Named as Named'}
use Rattle.reloc.specs.Relocs.{RelocFits}
use Rattle.strtab.specs.Names.{first_uses}
use Rattle.aout_object.specs.Objects.{Contents, file_of}
use Rattle.aout_object.specs.Decoding.{Answers, Gives}
use Rattle.aout_object.specs.Making.{HasWholeName, made, make_checks, kinds_checks, addresses_check, size_check, entry_for, names_of}
use Rattle.aout_object.specs.declared.parts.Parts.{Parts}
use Rattle.aout_object.proofs.MakeLemmas.{length-file_of}
use Rattle.aout_object.proofs.StepLemmas.{first_fault-append}
use Rattle.aout_layout.specs.declared.header.TheConstants.{TWO_ORDERS}
use Rattle.asm_objects.specs.SourceMaking.{parts_by, entries_by, parts_of, entries_of, object_of}
use Rattle.asm_objects.specs.Emitting.{Left, Passed, Within, limit_checks}
use Rattle.asm_objects.specs.Layout.{start, table_of, each}
use Rattle.asm_objects.specs.Meaning.{undefined_of, undefined_entry, entries_in}
use Rattle.asm_statements.specs.declared.statement.Part.TheVariants as part
use Rattle.asm_statements.specs.declared.statement.Statement.{Statement}
use Rattle.asm_objects.specs.declared.table.Table.{Table}
use Rattle.asm_objects.proofs.ObjectLemmas.{IsGood, all_good, good_kinds, good_names}
use Rattle.asm_objects.proofs.RelocLemmas.{all_relocs_fit}
use Rattle.asm_objects.proofs.SizeLemmas.{length-text, length-data, length-entries}
use Rattle.asm_objects.proofs.TableLemmas.{within_limits}

-- the answer of making parts and entries, where no statement has a fault
gives : (result : Result Contents Refused) (fault : Option Fault) (value : Contents) → Answers result fault value → Gives result (unless fault value)
gives (Ok object) fault value made = rw (made.0, made.1) refl
gives (Err refused.Memory) fault value free = tt
gives (Err (refused.At why)) fault value told = rw told refl

-- two checks in a row, the second of which is refused sooner
sooner : (first second later : Bool) (one other fault : Fault) → (second ≡ false → later ≡ false)
    → first_fault (record { holds = first; fault = one } ∷ record { holds = second; fault = other } ∷ []) ≡ Some fault
    → first_fault (record { holds = first; fault = one } ∷ record { holds = later; fault = other } ∷ []) ≡ Some fault
sooner false second later one other fault refused told = told
sooner true true later one other fault refused told = absurd (none-some fault told)
sooner true false later one other fault refused told = rw (refused refl) told

-- what is over a limit is so with more
over_limit : (less more limit : ℕ) → less ≤ more → nat_le less limit ≡ false → nat_le more limit ≡ false
over_limit less more limit grows over = let past : limit < less = leb-false less limit over in lt-leb more limit (omega (arith, grows, past))

module _ (order : Order) (ss : List Statement) (left : Left (table_of ss) start ss) where
  -- ---- what an object needs of its parts

  good : AllByRecursion IsGood (entries_of ss)
  good = all_good (table_of ss) ss left

  all_names : All HasWholeName (entries_of ss)
  all_names = All-from_recursion HasWholeName (entries_of ss) (good_names (entries_of ss) good)

  -- ---- the limits

  -- the parts are as long as the places at the end say
  text_is : length (parts_of order ss).text ≡ (table_of ss).end.text
  text_is = omega (arith, length-text (is_big order) (table_of ss) start ss)

  data_is : length (parts_of order ss).data_part ≡ (table_of ss).end.datum
  data_is = omega (arith, length-data (is_big order) (table_of ss) start ss)

  entries_are : length (entries_of ss) ≡ (table_of ss).end.entries + length (undefined_of (table_of ss) ss)
  entries_are =
      let both = length-append (each (entries_in (table_of ss)) start ss) (map undefined_entry (undefined_of (table_of ss) ss)) in
      let here = length-entries (table_of ss) start ss in
      let more = length-map (undefined_of (table_of ss) ss) undefined_entry in
      omega (arith, both, here, more)

  -- the end of bss
  end_is : (table_of ss).entry + (table_of ss).end.text + (table_of ss).end.datum + max (table_of ss).bsize (table_of ss).end.bss
      ≡ (parts_of order ss).entry + length (parts_of order ss).text + length (parts_of order ss).data_part + (parts_of order ss).bss
  end_is = let text = text_is in let datum = data_is in omega (arith, text, datum)

  -- the file is longer than its segments and entries
  file_longer : (table_of ss).end.text + (table_of ss).end.datum + ((table_of ss).end.entries + length (undefined_of (table_of ss) ss)) * ENTRY_SIZE
      ≤ length (file_of (made (parts_of order ss) (entries_of ss)))
  file_longer =
      let sum = length-file_of (made (parts_of order ss) (entries_of ss)) in
      let count : length (made (parts_of order ss) (entries_of ss)).entries ≡ length (entries_of ss) = length-map (entries_of ss) (entry_for (first_uses (names_of (entries_of ss)))) in
      let text = text_is in
      let datum = data_is in
      let entries = entries_are in
      omega (arith, sum, count, text, datum, entries)

  -- a fault of the limits is that of the object
  limits_told : (fault : Fault) → first_fault (limit_checks (table_of ss) (length (undefined_of (table_of ss) ss))) ≡ Some fault
      → first_fault (make_checks (parts_of order ss) (entries_of ss)) ≡ Some fault
  limits_told fault told =
      first_fault-append (kinds_checks 0 (entries_of ss)) (addresses_check (parts_of order ss) ∷ size_check (length (file_of (made (parts_of order ss) (entries_of ss)))) ∷ [])
      ∙ rw (good_kinds 0 (entries_of ss) good, ← end_is)
      (sooner _ _ _ (fault_at TOO_LARGE GREATEST_ADDRESS) (fault_at TOO_LARGE FILE_LIMIT) fault (over_limit _ _ FILE_LIMIT file_longer) told)

-- ---- the passes together

module _ (order : Order) (ss : List Statement) (t : Table) (u : List (List ℕ)) (passed : Passed ss t u) where
  names_are : u ≡ undefined_of (table_of ss) ss
  names_are = passed.names ∙ ap (λ (v : Table). undefined_of v ss) passed.table

  left_is : Left (table_of ss) start ss
  left_is = subst (λ (v : Table). Left v start ss) passed.table passed.left

  -- the limits hold
  pub passed_within : (count : ℕ) → count ≡ length u → first_fault (limit_checks t count) ≡ None → Within t (length u)
  passed_within count is_count none =
      let holds : first_fault (limit_checks (table_of ss) (length u)) ≡ None = rw (passed.table, is_count) at none in
      subst (λ (v : Table). Within v (length u)) (sym passed.table) (within_limits ss (length u) left_is holds)

  -- the limits do not
  pub passed_over : (count : ℕ) (fault : Fault) → count ≡ length u → first_fault (limit_checks t count) ≡ Some fault → Gives (Err (refused.At fault)) (object_of order ss)
  passed_over count fault is_count told =
      let over : first_fault (limit_checks (table_of ss) (length u)) ≡ Some fault = rw (passed.table, is_count) at told in
      rw (left_is.no_fault, limits_told order ss left_is fault (rw names_are at over)) refl

  -- ---- what an object asks of parts and entries

  parts_are : (parts : Parts) → parts ≡ parts_by order t u ss → parts ≡ parts_of order ss
  parts_are parts is = is ∙ ap (λ (v : Table). parts_by order v u ss) passed.table ∙ ap (λ (v : List (List ℕ)). parts_by order (table_of ss) v ss) names_are

  named_are : (named : List Named') → named ≡ entries_by t u ss → named ≡ entries_of ss
  named_are named is = is ∙ ap (λ (v : Table). entries_by v u ss) passed.table ∙ ap (λ (v : List (List ℕ)). entries_by (table_of ss) v ss) names_are

  pub passed_names : (named : List Named') → named ≡ entries_by t u ss → All HasWholeName named
  passed_names named is = subst (λ (n : List Named'). All HasWholeName n) (sym (named_are named is)) (all_names order ss left_is)

  pub passed_relocs : (parts : Parts) → parts ≡ parts_by order t u ss → Within t (length u) → All RelocFits parts.text_relocs × All RelocFits parts.data_relocs
  passed_relocs parts is within =
      rw is (
        All-from_recursion RelocFits _ (all_relocs_fit part.Text t u ss within passed.left),
        All-from_recursion RelocFits _ (all_relocs_fit part.Data t u ss within passed.left),
      )

  pub passed_machine : (parts : Parts) → parts ≡ parts_by order t u ss → Within t (length u) → parts.machine ≢ TWO_ORDERS
  passed_machine parts is within = rw is within.told

  -- what is made is the object
  pub passed_made : (result : Result Contents Refused) (parts : Parts) (named : List Named') → parts ≡ parts_by order t u ss → named ≡ entries_by t u ss
      → Answers result (first_fault (make_checks parts named)) (made parts named) → Gives result (object_of order ss)
  passed_made result parts named of_parts of_named answers =
      rw left_is.no_fault (gives result (first_fault (make_checks (parts_of order ss) (entries_of ss))) (made (parts_of order ss) (entries_of ss))
      (rw (parts_are parts of_parts, named_are named of_named) at answers))
