-- Symbols of equal shapes whose files become those of others are these.
use Rattle.std.proofs.Common.{◌≡◌, ℕ, List, [], ◌∷◌, ◌++◌, length, refl, sym, ap, ◌∙◌, arith, map}
use Rattle.std.specs.Prelude.{flat_map}
use Rattle.std.specs.List.{AllByRecursion}
use Rattle.std.proofs.lemmas.List.{map-append, length-map}
use Rattle.stab_symbols.specs.declared.tree.Symbol.{Symbol}
use Rattle.stab_symbols.specs.Shape.{ShapedSymbol}
use Rattle.stab_symbols.specs.Files.{DifferInFiles, file_0, files_of, shape_of, with_files}

-- lists whose fronts are equally long
split_equal : (as1 bs1 cs ds : List ℕ) → length as1 ≡ length cs → as1 ++ bs1 ≡ cs ++ ds → (as1 ≡ cs) × (bs1 ≡ ds)
split_equal [] bs1 [] ds long is = (refl, is)
split_equal [] bs1 (c ∷ cs) ds long is = absurd (omega arith)
split_equal (a ∷ as1) bs1 [] ds long is = absurd (omega arith)
split_equal (a ∷ as1) bs1 (c ∷ cs) ds long is =
    let both : a ∷ (as1 ++ bs1) ≡ c ∷ (cs ++ ds) = is in
    let first : a ≡ c = cc in
    let later : as1 ++ bs1 ≡ cs ++ ds = cc in
    let more = split_equal as1 bs1 cs ds (omega arith) later in
    (ap (λ z. z ∷ as1) first ∙ ap (λ z. c ∷ z) more.0, more.1)

module _
    (differ : (s t : Symbol) → ShapedSymbol s → ShapedSymbol t → shape_of s ≡ shape_of t → DifferInFiles s t)
    (known : (s t : Symbol) → with_files file_0 s ≡ with_files file_0 t → files_of s ≡ files_of t → s ≡ t)
    (again : (change : ℕ → ℕ) (s : Symbol) → with_files file_0 (with_files change s) ≡ with_files file_0 s)
    (files_new : (change : ℕ → ℕ) (s : Symbol) → files_of (with_files change s) ≡ map change (files_of s)) where
  -- symbols that differ in files alone have as many
  as_many : (s t : Symbol) → DifferInFiles s t → length (files_of s) ≡ length (files_of t)
  as_many s t like =
      sym (length-map (files_of s) file_0) ∙ ap length (sym (files_new file_0 s)) ∙ ap (λ z. length (files_of z)) like
      ∙ ap length (files_new file_0 t) ∙ length-map (files_of t) file_0

  -- the symbols with new files are those that have these
  pub same_symbols : (change : ℕ → ℕ) (ss ts : List Symbol) → AllByRecursion ShapedSymbol ss → AllByRecursion ShapedSymbol ts
      → map shape_of ss ≡ map shape_of ts
      → map change (flat_map files_of ss) ≡ flat_map files_of ts → map (with_files change) ss ≡ ts
  same_symbols change [] [] first second shapes files = refl
  same_symbols change [] (t ∷ ts) first second shapes files = let z : [] ≡ shape_of t ∷ map shape_of ts = shapes in absurd cc
  same_symbols change (s ∷ ss) [] first second shapes files = let z : shape_of s ∷ map shape_of ss ≡ [] = shapes in absurd cc
  same_symbols change (s ∷ ss) (t ∷ ts) first second shapes files =
      let both : shape_of s ∷ map shape_of ss ≡ shape_of t ∷ map shape_of ts = shapes in
      let here : shape_of s ≡ shape_of t = cc in
      let later : map shape_of ss ≡ map shape_of ts = cc in
      let like : DifferInFiles s t = differ s t first.0 second.0 here in
      let long : length (map change (files_of s)) ≡ length (files_of t) = length-map (files_of s) change ∙ as_many s t like in
      let joined : map change (files_of s) ++ map change (flat_map files_of ss) ≡ files_of t ++ flat_map files_of ts = sym (map-append change (files_of s) (flat_map files_of ss)) ∙ files in
      let parts = split_equal (map change (files_of s)) (map change (flat_map files_of ss)) (files_of t) (flat_map files_of ts) long joined in
      let one : with_files change s ≡ t = known (with_files change s) t (again change s ∙ like) (files_new change s ∙ parts.0) in
      ap (λ z. z ∷ map (with_files change) ss) one ∙ ap (λ z. t ∷ z) (same_symbols change ss ts first.1 second.1 later parts.1)
