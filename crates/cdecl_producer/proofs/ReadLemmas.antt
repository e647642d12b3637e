-- What a loop over a stack of open files uses: what an include that was carried out is of the given files, that another token begins a
-- declaration, and what is known of all after a header ends.
use Rattle.std.proofs.Common.{◌≡◌, ℕ, List, [], ◌∷◌, Bool, true, false, Option, Result, sym, ap, ◌∙◌, subst}
use Rattle.st_base.specs.declared.fault.Fault.{Fault}
use Rattle.c_tokens.specs.declared.kind.Kind.TheVariants as k
use Rattle.c_tokens.specs.Tokens.{Info, Token}
use Rattle.c_items.specs.Trees.{Item, BeginsWith}
use Rattle.cdecl_producer.specs.declared.source.Source.{Source}
use Rattle.cdecl_producer.specs.declared.reading.Reading.{Reading}
use Rattle.cdecl_producer.specs.Files.{Meaning, Around, Wanted, Continues, IsDeclaration, wanted, wanted_at, left, place_of}
use Rattle.cdecl_producer.proofs.StepLemmas.{end_step}

-- the include at the place that was looked up is the include of the given files
pub wanted_is : (fs : List Source) (i : Info) (s : Reading) (v : Option ℕ) (w : Wanted) → v ≡ place_of i.text fs → wanted_at i.text i.line s v ≡ w
    → wanted fs i s ≡ w
unfolding wanted
wanted_is fs i s v w e h = ap (λ y. wanted_at i.text i.line s y) (sym e) ∙ h

abbrev is_include : List Token → Bool
is_include [] = false
is_include ((k.Include, i) ∷ ts) = true
is_include (t ∷ ts) = false

-- what does not begin with an include is a declaration
pub is_declaration : (ts us : List Token) (it : Item) → BeginsWith ts it us → is_include ts ≡ false → IsDeclaration it
is_declaration ts us (Item.include i) e n =
    let a : true ≡ false = sym (ap (λ y. is_include y) e) ∙ n in
    cc
is_declaration ts us (Item.type_name i s d semi) e n = tt
is_declaration ts us (Item.struct_alone q s t brace fs semi) e n = tt
is_declaration ts us (Item.enum_alone q s t brace cs semi) e n = tt
is_declaration ts us (Item.variable st s d semi) e n = tt
is_declaration ts us (Item.function s ps n' lead tt' brace ls ss) e n = tt
is_declaration ts us (Item.static_function i s ps n' lead tt' brace ls ss) e n = tt

-- a header ends: what is left of the file around it comes to what all comes to
pub end_turn : (means : Meaning) (fs : List Source) (outer rest : List Around) (a : Around) (ts : List Token) (s new : Reading) (o : Result Reading Fault)
    → ts ≡ [] → outer ≡ a ∷ rest → new ≡ left a.header s → Continues means fs rest a.left new o → Continues means fs outer ts s o
end_turn means fs outer rest a ts s new o e stack now c =
    rw (e, stack) (end_step means fs rest a s o (subst (λ y. Continues means fs rest a.left y o) now c))
