use Rattle.std.proofs.Common.{◌≡◌, sym, ◌∙◌, false, is_some, Vec, ℕ, Global}
use Rattle.std.specs.Map.{lookup}
use Rattle.std.specs.Str.{bytes_eq}
use Rattle.c_types.proofs.NameLemmas.{pairs-there, pairs-new, absent-key}
use Rattle.indexmap.proofs.CallerLemmas.{insert_entry-new}
use Rattle.c_types.proofs.typedefs.Typedefs.add.Goals as goal

pub returns-then-contains_key : goal.returns-then-contains_key
returns-then-contains_key c =
    pairs-there c.self.inside.map.entries c.args.self.now c.args.name.now c.args.typedef c.self.view_is (sym c.contains_key.ensures ∙ c.if-contains_key.true)

pub returns : goal.returns
returns c =
    let absent : is_some (lookup (λ (k : Vec ℕ Global). bytes_eq c.args.name.now k.items) c.self.inside.map.entries) ≡ false = sym c.contains_key.ensures ∙ c.if-contains_key.false in
    pairs-new c.self.inside.map.entries c.insert.new.self.entries c.in_ok-key.key c.args.self.now c.args.name.now c.args.typedef c.self.view_is c.in_ok-key.ensures.items absent
    (c.in_ok-insert.ensures.entries ∙ insert_entry-new (λ x y. bytes_eq x.items y.items) c.self.inside.map c.in_ok-key.key c.args.typedef
    (absent-key c.self.inside.map.entries c.in_ok-key.key c.args.name.now c.in_ok-key.ensures.items absent))
