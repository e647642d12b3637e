-- What the contents answer for a name after one more file was given.
use Rattle.std.proofs.Common.{◌≡◌, ℕ, ◌+◌, ◌<◌, Bool, cond, List, length, get_or, take, Option, Some, sym, ap, ◌∙◌}
use Rattle.std.specs.Prelude.{nat_eq}
use Rattle.std.specs.Cmp.Lexicographic.{texts_ties, nat_list_cmp_total, pointwise}
use Rattle.std.specs.FinMap.{get, insert, get-insert}
use Rattle.std.proofs.lemmas.List.Sums.{fold_more}
use Rattle.outside.specs.Causes.{Contents}
use Rattle.outside.specs.Held.{contents_of}
use Rattle.outside.specs.declared.held_file.HeldFile.{HeldFile}

-- the file at `place` is `file`, one of those given
module _ (files : List HeldFile) (place : ℕ) (file : HeldFile) (name : List ℕ) (within : place < length files) (is : file ≡ get_or files place file) where
  -- with it the contents answer its bytes for its own name, and for any other what they answered before
  get-contents_of : get (contents_of (take (place + 1) files)) name ≡ cond (pointwise nat_eq name file.name) (Some file.bytes) (get (contents_of (take place files)) name)
  get-contents_of =
      ap (λ (held : Contents). get held name) (fold_more _ _ files place file within)
      ∙ ap (λ (given : HeldFile). get (insert (contents_of (take place files)) given.name given.bytes) name) (sym is)
      ∙ get-insert nat_list_cmp_total (contents_of (take place files)) file.name file.bytes name
      ∙ ap (λ (same : Bool). cond same (Some file.bytes) (get (contents_of (take place files)) name)) (sym (texts_ties name file.name))

  -- so a search that takes its bytes where the names are the same, and else keeps what it found, finds that
  pub found-more : (same : Bool) (found before : Option (List ℕ)) → same ≡ pointwise nat_eq name file.name
      → before ≡ get (contents_of (take place files)) name → found ≡ cond same (Some file.bytes) before → found ≡ get (contents_of (take (place + 1) files)) name
  found-more same found before test was now =
      now ∙ ap (λ (b : Bool). cond b (Some file.bytes) before) test
      ∙ ap (λ (old : Option (List ℕ)). cond (pointwise nat_eq name file.name) (Some file.bytes) old) was ∙ sym get-contents_of
