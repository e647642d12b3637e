-- Files within files: each step of a walk with a stack of what is left of the outer files keeps what all comes to.
use Rattle.std.proofs.Common.{◌≡◌, List, [], ◌∷◌, Some, None, Result, Ok, Err, refl, sym, subst, inl, inr}
use Rattle.st_base.specs.declared.fault.Fault.{Fault}
use Rattle.c_tokens.specs.Tokens.{Info, Token}
use Rattle.c_items.specs.Trees.{Item, BeginsWith}
use Rattle.c_units.specs.declared.draft.Draft.{Draft}
use Rattle.cdecl_producer.specs.declared.source.Source.{Source}
use Rattle.cdecl_producer.specs.declared.reading.Reading.{Reading}
use Rattle.cdecl_producer.specs.Files.{Meaning, Header, Around, Reads, Continues, IsDeclaration, wanted, left, tokens_at}

-- a declaration is carried out
pub item_step : (means : Meaning) (fs : List Source) (rest : List Around) (ts us : List Token) (it : Item) (s : Reading) (d : Draft) (o : Result Reading Fault)
    → BeginsWith ts it us → IsDeclaration it → means it s.draft ≡ Ok d → Continues means fs rest us (record s { draft = d }) o → Continues means fs rest ts s o
item_step means fs [] ts us it s d o e n m c = Reads.item ts us it s d o e n m c
item_step means fs (a ∷ rest) ts us it s d o e n m (inl h) = inl (h.0, Reads.item ts us it s d (Ok h.0) e n m h.1, h.2)
item_step means fs (a ∷ rest) ts us it s d o e n m (inr h) = inr (h.0, Reads.item ts us it s d (Err h.0) e n m h.1, h.2)

-- a fault in a file is the outcome of all
pub fault_step : (means : Meaning) (fs : List Source) (rest : List Around) (ts : List Token) (s : Reading) (f : Fault)
    → Reads means fs ts s (Err f) → Continues means fs rest ts s (Err f)
fault_step means fs [] ts s f h = h
fault_step means fs (a ∷ rest) ts s f h = inr (f, h, refl)

-- an include of a file that was read
pub again_step : (means : Meaning) (fs : List Source) (rest : List Around) (ts us : List Token) (i : Info) (s : Reading) (o : Result Reading Fault)
    → BeginsWith ts (Item.include i) us → wanted fs i s ≡ Ok None → Continues means fs rest us s o → Continues means fs rest ts s o
again_step means fs [] ts us i s o e w c = Reads.again ts us i s o e w c
again_step means fs (a ∷ rest) ts us i s o e w (inl h) = inl (h.0, Reads.again ts us i s (Ok h.0) e w h.1, h.2)
again_step means fs (a ∷ rest) ts us i s o e w (inr h) = inr (h.0, Reads.again ts us i s (Err h.0) e w h.1, h.2)

-- what is left of the file around a header
abbrev pub around : Header → List Token → Around
around h us = record { header = h.place; left = us }

-- a header begins
pub header_step : (means : Meaning) (fs : List Source) (rest : List Around) (ts us : List Token) (i : Info) (h : Header) (s : Reading) (o : Result Reading Fault)
    → BeginsWith ts (Item.include i) us → wanted fs i s ≡ Ok (Some h) → Continues means fs (around h us ∷ rest) (tokens_at h.place fs) h.reading o
    → Continues means fs rest ts s o
header_step means fs [] ts us i h s o e w (inl g) = Reads.header ts us i h s g.0 o e w g.1 g.2
header_step means fs [] ts us i h s o e w (inr g) = subst (λ x. Reads means fs ts s x) (sym g.2) (Reads.header_wrong ts us i h s g.0 e w g.1)
header_step means fs (a ∷ rest) ts us i h s o e w (inr g) = inr (g.0, Reads.header_wrong ts us i h s g.0 e w g.1, g.2)
header_step means fs (a ∷ rest) ts us i h s o e w (inl g) = by g.2
  where
    by : Continues means fs (a ∷ rest) us (left h.place g.0) o → Continues means fs (a ∷ rest) ts s o
    by (inl k) = inl (k.0, Reads.header ts us i h s g.0 (Ok k.0) e w g.1 k.1, k.2)
    by (inr k) = inr (k.0, Reads.header ts us i h s g.0 (Err k.0) e w g.1 k.1, k.2)

-- a header ends
pub end_step : (means : Meaning) (fs : List Source) (rest : List Around) (a : Around) (s : Reading) (o : Result Reading Fault)
    → Continues means fs rest a.left (left a.header s) o → Continues means fs (a ∷ rest) [] s o
end_step means fs rest a s o c = inl (s, Reads.ended s, c)
