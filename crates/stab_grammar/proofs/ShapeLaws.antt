-- The laws of the shape: two shaped symbols of one shape differ in files alone, and of one shape and the same files are one.
use Rattle.std.proofs.Common.{◌≡◌, ℕ, ◌↔◌, true, List, [], ◌∷◌, ◌++◌, map, refl, sym, ap, ◌∙◌}
use Rattle.stab_symbols.specs.declared.tree.TypeTree.{TypeTree}
use Rattle.stab_symbols.specs.declared.tree.Descriptor.{Descriptor}
use Rattle.stab_symbols.specs.declared.tree.Descriptor.TheVariants as descriptors
use Rattle.stab_symbols.specs.declared.tree.Symbol.{Symbol}
use Rattle.stab_symbols.specs.SymbolSpelling.{letters, print_symbol}
use Rattle.stab_symbols.specs.Shape.{refused, descriptor_ok, ShapedSymbol}
use Rattle.stab_symbols.specs.Files.{files_of, shape_of, with_files, file_0, DifferInFiles}
use Rattle.stab_grammar.proofs.AnyDepth.{one_symbol, same_parts}
use Rattle.stab_grammar.proofs.WithFiles.{shape-with, files-with}
use Rattle.stab_grammar.proofs.PutBack.{known as tree_known}
use Rattle.stab_grammar.proofs.Twice.{at_once}
use Rattle.stab_grammar.proofs.Spread.{spread, gather, gathered}
use Rattle.stab_grammar.proofs.Renamed.{renamed, names_back}
use Rattle.stab_grammar.proofs.SpreadShapes.{Spreads, spreads_both, spreads_end, spreads_name, spreads, stack_same}

-- ---- other files

-- the shape stays
pub shape_kept : (change : ℕ → ℕ) (s : Symbol) → shape_of (with_files change s) ≡ shape_of s
shape_kept change s = ap (λ (z : List ℕ). (s.name ++ 58 ∷ []) ++ (letters s.descriptor ++ z)) (shape-with change s.tree)

-- the files are the changed ones, in the same order
pub files_new : (change : ℕ → ℕ) (s : Symbol) → files_of (with_files change s) ≡ map change (files_of s)
files_new change s = files-with change s.tree

-- with 0 for each file it is as if they had not been changed
pub again : (change : ℕ → ℕ) (s : Symbol) → with_files file_0 (with_files change s) ≡ with_files file_0 s
again change s = ap (λ (t : TypeTree). record { name = s.name; descriptor = s.descriptor; tree = t }) (at_once change file_0 s.tree)

-- ---- a symbol with its names spread and no files

abbrev renamed_symbol : (List ℕ → List ℕ) → Symbol → Symbol
renamed_symbol rename s = record { name = rename s.name; descriptor = s.descriptor; tree = renamed rename s.tree }

-- the names have their bytes back
symbol_back : (s : Symbol) → renamed_symbol gather (renamed_symbol spread s) ≡ with_files file_0 s
symbol_back s = same_parts _ _ (gathered s.name) refl (names_back s.tree)

-- no descriptor has a `(`
letters_stay : (d : Descriptor) → spread (letters d) ≡ letters d
letters_stay descriptors.Stack = refl
letters_stay descriptors.StaticFun = refl
letters_stay descriptors.GlobalFun = refl
letters_stay descriptors.Global = refl
letters_stay descriptors.FileStatic = refl
letters_stay descriptors.ProcStatic = refl
letters_stay descriptors.Param = refl
letters_stay descriptors.RegParam = refl
letters_stay descriptors.Register = refl
letters_stay descriptors.RefRegParam = refl
letters_stay descriptors.RefParam = refl
letters_stay descriptors.Typedef = refl
letters_stay descriptors.Tag = refl
letters_stay descriptors.TagTypedef = refl

-- without a descriptor it still begins as it may
descriptor_stays : (d : Descriptor) (t : TypeTree) → descriptor_ok d t ≡ true → descriptor_ok d (renamed spread t) ≡ true
descriptor_stays descriptors.Stack t e = stack_same t ∙ e
descriptor_stays descriptors.StaticFun t e = refl
descriptor_stays descriptors.GlobalFun t e = refl
descriptor_stays descriptors.Global t e = refl
descriptor_stays descriptors.FileStatic t e = refl
descriptor_stays descriptors.ProcStatic t e = refl
descriptor_stays descriptors.Param t e = refl
descriptor_stays descriptors.RegParam t e = refl
descriptor_stays descriptors.Register t e = refl
descriptor_stays descriptors.RefRegParam t e = refl
descriptor_stays descriptors.RefParam t e = refl
descriptor_stays descriptors.Typedef t e = refl
descriptor_stays descriptors.Tag t e = refl
descriptor_stays descriptors.TagTypedef t e = refl

-- so with the letters of a descriptor
spreads_letters : (s : Symbol) → Spreads (descriptor_ok s.descriptor s.tree) (letters s.descriptor) (letters s.descriptor) (descriptor_ok s.descriptor (renamed spread s.tree))
spreads_letters s = record { says = λ e. (letters_stay s.descriptor, descriptor_stays s.descriptor s.tree e) }

-- its spelling is the shape, spread
symbol_spreads : (s : Symbol) → ShapedSymbol s → (spread (shape_of s) ≡ print_symbol (renamed_symbol spread s)) × ShapedSymbol (renamed_symbol spread s)
symbol_spreads s = (spreads_both (spreads_end 58 refl (spreads_name refused refl s.name)) (spreads_both (spreads_letters s) (spreads s.tree))).says

-- ---- equal shapes

-- symbols of one shape differ in files alone
differ : (s t : Symbol) → ShapedSymbol s → ShapedSymbol t → shape_of s ≡ shape_of t → DifferInFiles s t
differ s t f g e =
    let a = symbol_spreads s f in
    let b = symbol_spreads t g in
    let one : renamed_symbol spread s ≡ renamed_symbol spread t = one_symbol _ _ a.1 b.1 (sym a.0 ∙ ap spread e ∙ b.0) in
    sym (symbol_back s) ∙ ap (renamed_symbol gather) one ∙ symbol_back t

-- symbols that differ in files alone have one shape
alike : (s t : Symbol) → DifferInFiles s t → shape_of s ≡ shape_of t
alike s t e = sym (shape_kept file_0 s) ∙ ap shape_of e ∙ shape_kept file_0 t

-- two shaped symbols have equal shapes exactly where they differ in files alone
pub exactly : (s t : Symbol) → ShapedSymbol s → ShapedSymbol t → (shape_of s ≡ shape_of t) ↔ DifferInFiles s t
exactly s t f g = (differ s t f g, alike s t)

-- the parts of two equal symbols
name_same : (s t : Symbol) → s ≡ t → (s.name ≡ t.name) × (s.descriptor ≡ t.descriptor) × (s.tree ≡ t.tree)
name_same s t e = (ap (λ (z : Symbol). z.name) e, ap (λ (z : Symbol). z.descriptor) e, ap (λ (z : Symbol). z.tree) e)

-- two symbols that differ in files alone and have the same files are one
pub known : (s t : Symbol) → DifferInFiles s t → files_of s ≡ files_of t → s ≡ t
known s t e h =
    let k = name_same (with_files file_0 s) (with_files file_0 t) e in
    same_parts s t k.0 k.1 (tree_known file_0 s.tree t.tree k.2 h)

-- two shaped symbols of one shape with the same files are one
pub determined : (s t : Symbol) → ShapedSymbol s → ShapedSymbol t → shape_of s ≡ shape_of t → files_of s ≡ files_of t → s ≡ t
determined s t f g e h = known s t (differ s t f g e) h
