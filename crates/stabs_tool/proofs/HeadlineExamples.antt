-- Worked values of the headline, by hand: runs for which it holds, and runs that it must refuse.
use Rattle.std.proofs.Common.{◌≡◌, ℕ, List, Some, None, refl, sym, ap, ◌∙◌, inl, inr}
use Rattle.std.specs.Prelude.{Option, ◌⊎◌, codes}
use Rattle.std.specs.Cmp.Lexicographic.{nat_list_cmp_total}
use Rattle.std.specs.FinMap.{get, insert, get-insert}
use Rattle.outside.specs.Causes.{Contents, Rose}
use Rattle.bincl_match.specs.declared.mode.Mode.{Mode}
use Rattle.file_commands.specs.RunCauses.{FilesSeen}
use Rattle.file_commands.specs.ListImages.{IsAcceptedList}
use Rattle.file_commands.specs.declared.outcome.TheConstants.{DONE, READ_FAULT, NO_MEMORY}
use Rattle.stabs_tool.specs.Headline.{Headline, StoresImage, AsksToLink, IsStopped}

-- a run with these words, and what it sees before and after
module _ (words : List (List ℕ)) (f h : FilesSeen) (old new : Option (List ℕ)) (before now : ℕ) where
  abbrev Ends : ℕ → Type 0
  Ends = Headline words f h old new before now

  -- memory may be refused at any time
  no_memory : Ends NO_MEMORY
  no_memory = record {
    stores = λ mode base out names m asks list loads stores. inl refl;
    ends = λ mode base out names m asks list. inr (inl refl);
    stored = λ mode base out names m asks done. absurd cc;
    replies = λ names query m asks list. inr (inl refl);
    told = λ names query m asks done. absurd cc;
  }

  -- a read fault is told where a load failed
  read_fault : Rose f.loads h.loads → Ends READ_FAULT
  read_fault rose = record {
    stores = λ mode base out names m asks list loads stores. absurd (loads rose);
    ends = λ mode base out names m asks list. inr (inr (inl (refl, rose)));
    stored = λ mode base out names m asks done. absurd cc;
    replies = λ names query m asks list. inr (inr (inl (refl, rose)));
    told = λ names query m asks done. absurd cc;
  }

  -- the words ask to link, and to store the image under the name `out`
  module _ (mode : Mode) (base : ℕ) (names : List (List ℕ)) (m : Contents) (asks : AsksToLink words f mode base (codes "out") names m) where
    abbrev out : List ℕ
    out = codes "out"

    -- status 0 refuses files that do not hold `out` before the run and are the same after it
    nothing_stored : h.held ≡ Some m → get m out ≡ None → Ends DONE → ⊥
    nothing_stored same lacks ended = by_stored (ended.stored mode base out names m asks refl) where
      by_stored : StoresImage mode base out names m h → ⊥
      by_stored (bytes, is, held) =
          let one : m ≡ insert m out bytes = let e : Some m ≡ Some (insert m out bytes) = sym same ∙ held in cc in
          let e : None ≡ Some bytes = sym lacks ∙ ap (λ (c : Contents). get c out) one ∙ get-insert nat_list_cmp_total m out bytes out in cc

    -- an accepted list is never refused with status 3
    refused : IsAcceptedList mode base names m → Ends 3 → ⊥
    refused list ended = by_end (ended.ends mode base out names m asks list) where
      by_end : (3 ≡ DONE) ⊎ IsStopped f h before now 3 → ⊥
      by_end (inl done) = absurd cc
      by_end (inr (inl memory)) = absurd cc
      by_end (inr (inr (inl (read, rose)))) = absurd cc
      by_end (inr (inr (inr (write, rose)))) = absurd cc
