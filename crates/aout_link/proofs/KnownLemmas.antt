-- The kind of what a name stands for in the image is that of a definition or of a common. So what holds of these four kinds holds of it.
use Rattle.std.proofs.Common.{◌≡◌, ℕ, Bool, true, false, cond, List, [], ◌∷◌, ◌++◌, map, Some, refl, sym, subst}
use Rattle.std.specs.Prelude.{filter, ◌||◌, ◌==◌, bytes_eq, unwrap_or}
use Rattle.std.specs.List.{AllByRecursion}
use Rattle.std.proofs.lemmas.Bool.{eqb-true}
use Rattle.nlist_codec.specs.declared.named.Named.{Named}
use Rattle.header_merge.proofs.FrontLemmas.{all_append}
use Rattle.aout_link.specs.Sources.{Source}
use Rattle.aout_link.specs.Moves.{fronts, all_moves}
use Rattle.nlist_codec.specs.Kinds.{defines_name}
use Rattle.aout_link.specs.NameTables.{known_of, known_by, definitions, common_at, placed_commons, common_sizes, bss_end, moved_all, names_table}
use Rattle.aout_link.specs.declared.definitions.Known.{Known}

-- the kind of what a name stands for is such a kind
abbrev pub HasKind : (ℕ → Type 0) → List ℕ × Known → Type 0
HasKind P e = P e.1.kind

-- what a look-up finds has such a kind, where all that names stand for has
pub found_kind : (P : ℕ → Type 0) (table : List (List ℕ × Known)) (q : List ℕ) (other : Known) → AllByRecursion (HasKind P) table → P other.kind → P (unwrap_or (known_by q table) other).kind
found_kind P [] q other a o = o
found_kind P (e ∷ es) q other a o = by (bytes_eq q e.0) (found_kind P es q other a.1 o)
  where
    by : (b : Bool) → P (unwrap_or (known_by q es) other).kind → P (unwrap_or (cond b (Some e.1) (known_by q es)) other).kind
    by true rest = a.0
    by false rest = rest

-- what holds of the kinds of definitions, of which one is also that of commons
module _ (P : ℕ → Type 0) (absolute : P 3) (text : P 5) (datum : P 7) (bss : P 9) where
  -- a definition has such a kind
  definition_kind : (kind : ℕ) → defines_name kind ≡ true → P kind
  definition_kind kind e = by (kind == 3) (kind == 5) (kind == 7) (kind == 9) refl refl refl refl e
    where
      at : (n : ℕ) → kind == n ≡ true → P n → P kind
      at n is h = subst P (sym (eqb-true kind n is)) h

      by : (a b c d : Bool) → kind == 3 ≡ a → kind == 5 ≡ b → kind == 7 ≡ c → kind == 9 ≡ d → (a || b || c || d) ≡ true → P kind
      by true b c d p q r s h = at 3 p absolute
      by false true c d p q r s h = at 5 q text
      by false false true d p q r s h = at 7 r datum
      by false false false true p q r s h = at 9 s bss
      by false false false false p q r s h = absurd (let z : false ≡ true = h in cc)

  -- so have those among entries
  definition_kinds : (ns : List Named) → AllByRecursion (HasKind P) (definitions ns)
  definition_kinds [] = tt
  definition_kinds (n ∷ ns) = by (defines_name n.kind) refl (definition_kinds ns)
    where
      by : (b : Bool) → defines_name n.kind ≡ b → AllByRecursion (HasKind P) (definitions ns)
          → AllByRecursion (HasKind P) (map known_of (cond b (n ∷ filter (λ x. defines_name x.kind) ns) (filter (λ x. defines_name x.kind) ns)))
      by true is rest = (definition_kind n.kind is, rest)
      by false is rest = rest

  -- and commons
  common_kinds : (start : ℕ) (before ss : List (List ℕ × ℕ)) → AllByRecursion (HasKind P) (map (λ p. (p.1.0, common_at start p.0)) (fronts before ss))
  common_kinds start before [] = tt
  common_kinds start before (e ∷ ss) = (bss, common_kinds start (before ++ e ∷ []) ss)

  -- and all that names stand for
  pub table_kinds : (base : ℕ) (os : List Source) → AllByRecursion (HasKind P) (names_table base os)
  table_kinds base os =
      all_append (HasKind P) (definitions (moved_all (all_moves base os) os)) (placed_commons (bss_end base os) (common_sizes os))
      (definition_kinds (moved_all (all_moves base os) os)) (common_kinds (bss_end base os) [] (common_sizes os))
