-- What is filled by the owners of each unit is what the image is expanded to.
use Rattle.std.proofs.Common.{◌≡◌, ℕ, zero, suc, ◌+◌, Bool, true, false, cond, List, [], ◌∷◌, length, Some, refl, sym, ap, ◌∙◌, arith, subst, map}
use Rattle.std.specs.Prelude.{slice_get}
use Rattle.std.proofs.Math.Path.{fun_ext}
use Rattle.nlist_codec.specs.declared.named.Named.{Named}
use Rattle.stab_symbols.specs.declared.tree.Symbol.{Symbol}
use Rattle.stab_symbols.specs.Files.{with_files}
use Rattle.unit_outlines.specs.declared.outline_types.HeaderMark.{HeaderMark}
use Rattle.unit_outlines.specs.declared.outline_types.UnitSpan.{UnitSpan}
use Rattle.unit_outlines.specs.declared.outline_types.Marks.TheVariants.{Image}
use Rattle.stab_units.specs.declared.unit.HeaderFile.{HeaderFile}
use Rattle.stab_units.specs.declared.unit.Unit.{Unit}
use Rattle.unit_outlines.specs.Outlines.{units_of, IsOutlined}
use Rattle.stab_units.specs.Units.{Filed, header_name, names_of, files_from, AreUnitsOf}
use Rattle.type_graph.specs.declared.world.External.{External}
use Rattle.type_graph.specs.Worlds.{externals_of}
use Rattle.unit_index.specs.declared.owner.Owner.{Owner}
use Rattle.unit_index.specs.Owners.{Row, unit_rows, rows_of, owner_in, stands_for}
use Rattle.unit_index.specs.Expanding.{symbols_at, taken_over, file_expanded, headers_expanded, files_expanded, unit_expanded, units_expanded, expanded, IsExpanded}
use Rattle.unit_index.specs.Indexes.{Indexed, all_owners, AreInPlace, owners_by, IsIndex, AsMany}
use Rattle.unit_index.specs.Filling.{owners_at, taken_by, taken_from, all_taken, file_with, headers_with, files_with, unit_with, units_with, AreFull}
use Rattle.unit_index.proofs.Tests.{map_length}
use Rattle.unit_index.proofs.PlaceLemmas.{number_in_table, stands_at, owners_in_place, all_by_units, as_many_by}

-- ---- as many

files_length : (number : ℕ) (names : List (List ℕ)) (items : List Filed) → length (files_from number names items) ≡ length names
files_length number [] items = refl
files_length number (n ∷ names) items = ap suc (files_length (number + 1) names items)

-- a unit that was read has a file for each header, and its main source
pub are_full : (entries : List Named) (spans : List UnitSpan) (units : List Unit) → AreUnitsOf entries spans units → AreFull spans units
are_full entries [] [] are = tt
are_full entries [] (u ∷ units) are = absurd are
are_full entries (s ∷ spans) [] are = absurd are
are_full entries (s ∷ spans) (u ∷ units) are =
    let files : length u.files ≡ suc (length (map header_name s.headers)) = ap (λ (z : Unit). length z.files) are.0.is ∙ files_length 0 (names_of s) are.0.items in
    let headers : length (map header_name s.headers) ≡ length s.headers = map_length header_name s.headers in
    (omega (arith, files, headers), are_full entries spans units are.1)

-- ---- a unit

module _ (oss : List (List Owner)) (place : AreInPlace 0 oss) (units : List Unit) where
  -- what the code takes over is what the definition says
  taken_same : (unit : ℕ) (o : Owner) → taken_by oss units (owners_at (slice_get oss unit)) o ≡ taken_over (all_owners oss) units unit (Some o)
  taken_same unit o = ap (λ (change : ℕ → ℕ). map (with_files change) (symbols_at units o.owner_unit o.owner_file)) (fun_ext (λ n. sym (number_in_table oss place o.owner_unit unit n)))

  file_same : (excluded : Bool) (taken own : List Symbol) (file : HeaderFile) → taken ≡ own
      → file_with excluded (cond excluded taken []) file ≡ cond excluded (record { name = file.name; symbols = own }) file
  file_same true taken own file same = ap (λ (z : List Symbol). let made : HeaderFile = record { name = file.name; symbols = z } in made) same
  file_same false taken own file same = refl

  headers_same : (unit number : ℕ) (hs : List HeaderMark) (files : List HeaderFile) (ks : List Owner) → length ks ≡ length hs
      → ((k : ℕ) → slice_get ks k ≡ stands_for (all_owners oss) unit (number + k))
      → headers_with hs files (taken_from oss units (owners_at (slice_get oss unit)) hs ks) ≡ headers_expanded (all_owners oss) units unit number hs files
  headers_same unit number [] files ks l at = refl
  headers_same unit number (h ∷ hs) files [] l at = absurd (omega arith)
  headers_same unit number (h ∷ hs) [] (k ∷ ks) l at = refl
  headers_same unit number (h ∷ hs) (f ∷ files) (k ∷ ks) l at =
      let here : number + zero ≡ number = omega arith in
      let stands : Some k ≡ stands_for (all_owners oss) unit number = at zero ∙ ap (stands_for (all_owners oss) unit) here in
      ap (λ z. z ∷ headers_with hs files (taken_from oss units (owners_at (slice_get oss unit)) hs ks))
      (file_same h.excluded (taken_by oss units (owners_at (slice_get oss unit)) k) (taken_over (all_owners oss) units unit (stands_for (all_owners oss) unit number)) f
      (taken_same unit k ∙ ap (taken_over (all_owners oss) units unit) stands))
      ∙ ap (λ z. file_expanded (all_owners oss) units unit number h f ∷ z)
      (headers_same unit (number + 1) hs files ks (omega arith) (λ n. let next : number + suc n ≡ number + 1 + n = omega arith in at (suc n) ∙ ap (stands_for (all_owners oss) unit) next))

  files_same : (unit : ℕ) (hs : List HeaderMark) (files : List HeaderFile) (os : List Owner) → os ≡ owners_at (slice_get oss unit) → length os ≡ length hs
      → files_with hs files (taken_from oss units os hs os) ≡ files_expanded (all_owners oss) units unit hs files
  files_same unit hs [] os is l = refl
  files_same unit hs (own ∷ files) os is l =
      ap (λ z. own ∷ headers_with hs files (taken_from oss units z hs z)) is
      ∙ ap (λ z. own ∷ z) (headers_same unit 1 hs files (owners_at (slice_get oss unit)) (ap length (sym is) ∙ l)
      (λ n. let next : suc n ≡ 1 + n = omega arith in sym (stands_at oss place unit n) ∙ ap (stands_for (all_owners oss) unit) next))

  -- ---- units

  units_same : (number : ℕ) (spans : List UnitSpan) (us : List Unit) (ks : List (List Owner)) → AsMany spans ks
      → ((k : ℕ) (os : List Owner) → slice_get ks k ≡ Some os → slice_get oss (number + k) ≡ Some os)
      → units_with spans us (all_taken oss units spans ks) ≡ units_expanded (all_owners oss) units number spans us
  units_same number [] us ks many at = refl
  units_same number (s ∷ spans) us [] many at = absurd many
  units_same number (s ∷ spans) [] (os ∷ ks) many at = refl
  units_same number (s ∷ spans) (u ∷ us) (os ∷ ks) many at =
      let here : number + zero ≡ number = omega arith in
      let is : os ≡ owners_at (slice_get oss number) = sym (ap owners_at (ap (slice_get oss) (sym here) ∙ at zero os refl)) in
      ap (λ z. unit_with z u ∷ units_with spans us (all_taken oss units spans ks)) (files_same number s.headers u.files os is many.0)
      ∙ ap (λ z. unit_expanded (all_owners oss) units number s u ∷ z)
      (units_same (number + 1) spans us ks many.1 (λ k os e. let next : number + 1 + k ≡ number + suc k = omega arith in ap (slice_get oss) next ∙ at (suc k) os e))

-- ---- the image

-- with the owners of its index the units are what the image is expanded to
expanded_same : (spans : List UnitSpan) (units : List Unit)
    → units_with spans units (all_taken (owners_by (rows_of spans) 0 spans) units spans (owners_by (rows_of spans) 0 spans)) ≡ expanded spans units
expanded_same spans units =
    let oss = owners_by (rows_of spans) 0 spans in
    units_same oss (owners_in_place (rows_of spans) 0 spans) units 0 spans units oss (as_many_by (rows_of spans) 0 spans)
    (λ k os e. let here : zero + k ≡ k = omega arith in ap (slice_get oss) here ∙ e)
    ∙ ap (λ z. units_expanded z units 0 spans units) (all_by_units (rows_of spans) 0 spans)

module _ (text_end : ℕ) (entries : List Named) (index : Indexed) (is : IsIndex text_end entries index) where
  -- each span is that of a unit of the image
  pub outlined : (number : ℕ) (span : UnitSpan) → slice_get index.outlines number ≡ Some span → IsOutlined entries span
  outlined number span at = record { marks = Image; text_end = text_end; number = number; no_fault = is.no_fault.0; is = ap (λ z. slice_get z number) (sym is.outlines) ∙ at }

  pub index_many : AsMany index.outlines index.owners
  index_many =
      let spans = units_of text_end entries in
      subst (λ z. AsMany z index.owners) (sym is.outlines) (subst (λ z. AsMany spans z) (sym is.by_unit) (as_many_by (rows_of spans) 0 spans))

  pub index_full : (units : List Unit) → AreUnitsOf entries index.outlines units → AreFull index.outlines units
  index_full units are = are_full entries index.outlines units are

  -- the units that were read, filled, make the world
  pub is_expanded : (units made : List Unit) (externals : List External) → AreUnitsOf entries index.outlines units
      → made ≡ units_with index.outlines units (all_taken index.owners units index.outlines index.owners) → externals ≡ externals_of entries
      → IsExpanded text_end entries (record { units = made; externals = externals })
  is_expanded units made externals are filled others =
      let spans = units_of text_end entries in record {
        index = is.no_fault;
        units = units;
        are = subst (λ z. AreUnitsOf entries z units) is.outlines are;
        is = filled
            ∙ ap (λ z. units_with z units (all_taken index.owners units z index.owners)) is.outlines
            ∙ ap (λ z. units_with spans units (all_taken z units spans z)) is.by_unit
            ∙ expanded_same spans units;
        externals = others;
      }
