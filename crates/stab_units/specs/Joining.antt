-- Entries that a linker makes of others as it puts objects one after the other: each gets another value, and one that is no stab
-- may get another kind that is no stab either. A stab keeps its kind and its name. After a.out(5).
use Rattle.std.specs.Prelude.{◌≡◌, ◌⊎◌, ⊤, true, false, List, [], ◌∷◌}
use Rattle.st_base.specs.Stabs.{is_stab}
use Rattle.nlist_codec.specs.declared.named.Named.{Named}

-- both entries are stabs, of one kind and with one name
pub record AreAlikeStabs (e f : Named) : Type 0 where
  pub stab : is_stab e.kind ≡ true
  pub kind : e.kind ≡ f.kind
  pub name : e.name ≡ f.name

-- neither is a stab
pub record AreNoStabs (e f : Named) : Type 0 where
  pub first : is_stab e.kind ≡ false
  pub second : is_stab f.kind ≡ false

-- two entries are alike, whatever their values are
abbrev pub IsAlike : Named → Named → Type 0
IsAlike e f = AreAlikeStabs e f ⊎ AreNoStabs e f

-- the lists are equally long and alike place by place
abbrev pub AreAlike : List Named → List Named → Type 0
AreAlike [] [] = ⊤
AreAlike [] (f ∷ fs) = ⊥
AreAlike (e ∷ es) [] = ⊥
AreAlike (e ∷ es) (f ∷ fs) = IsAlike e f × AreAlike es fs
