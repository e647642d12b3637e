-- Given files come to one text or one fault, and no other.
use Rattle.std.proofs.Common.{◌≡◌, ℕ, List, [], ◌∷◌, Result, Ok, Err, refl, sym, ap, ◌∙◌}
use Rattle.st_base.specs.declared.fault.Fault.{Fault}
use Rattle.c_tokens.specs.Scanning.{tokens}
use Rattle.c_units.specs.Files.{finished}
use Rattle.cdecl_producer.specs.declared.source.Source.{Source}
use Rattle.cdecl_producer.specs.declared.reading.Reading.{Reading}
use Rattle.cdecl_producer.specs.Files.{Meaning}
use Rattle.cdecl_producer.specs.Outcomes.{OneMeaning, Comes, Produces, started}
use Rattle.cdecl_producer.proofs.OnceLemmas.{one_outcome}
use Rattle.cdecl_producer.proofs.TotalLemmas.{an_outcome}

comes_once : (means : Meaning) → OneMeaning means → (files : List Source) (o o' : Result Reading Fault) → Comes means files o → Comes means files o' → o ≡ o'
comes_once means one [] o o' c c' = absurd c
comes_once means one (main ∷ headers) o o' c c' = one_outcome means one (main ∷ headers) (tokens main.text) (started main headers) o o' c c'

-- this fault is the outcome
abbrev faulty : Fault → Result Reading Fault
faulty f = Err f

-- one at most
pub produces_once : (means : Meaning) → OneMeaning means → (files : List Source) (o o' : Result (List ℕ) Fault)
    → Produces means files o → Produces means files o' → o ≡ o'
produces_once means one files (Ok t) (Ok t') (s, c, e) (s', c', e') =
    let same : Result.Ok s ≡ Result.Ok s' = comes_once means one files (Ok s) (Ok s') c c' in
    let both : s ≡ s' = cc in
    ap (λ y. Result.Ok y) (e ∙ (ap (λ y. finished y.draft) both ∙ sym e'))
produces_once means one files (Ok t) (Err f') (s, c, e) c' =
    let same : Result.Ok s ≡ Result.Err f' = comes_once means one files (Ok s) (Err f') c c' in absurd cc
produces_once means one files (Err f) (Ok t') c (s', c', e') =
    let same : Result.Err f ≡ Result.Ok s' = comes_once means one files (Err f) (Ok s') c c' in absurd cc
produces_once means one files (Err f) (Err f') c c' =
    let same : faulty f ≡ faulty f' = comes_once means one files (Err f) (Err f') c c' in
    let both : f ≡ f' = cc in
    ap (λ y. Result.Err y) both

-- one at least, where a main source is given
pub produces_some : (means : Meaning) (main : Source) (headers : List Source) → (o : Result (List ℕ) Fault) × Produces means (main ∷ headers) o
produces_some means main headers = by (an_outcome means (main ∷ headers) (tokens main.text) (started main headers))
  where
    by : (o : Result Reading Fault) × Comes means (main ∷ headers) o → (o : Result (List ℕ) Fault) × Produces means (main ∷ headers) o
    by (Ok s, c) = (Ok (finished s.draft), (s, c, refl))
    by (Err f, c) = (Err f, c)
