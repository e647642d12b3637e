-- The name was placed or refused by `place`, whose facts are said here of the builder's names.
use Rattle.std.proofs.Common.{◌≢◌, [], refl}
use Rattle.strtab.specs.StringTable.{HasNoZero}
use Rattle.strtab.specs.Builder.{IsIndexed}
use Rattle.strtab.proofs.BuilderLemmas.{filled-tested, names-placed, offset-placed, kept-placed, refused-placed, size_of-indexed}
use Rattle.strtab.proofs.builder.Builder.add.Goals as goal

-- the name has bytes
filled : (c : goal.After-place) → c.in_ok-key.key.items ≢ []
filled c = filled-tested _ _ _ c.in_ok-key.ensures.items c.is_empty.ensures c.if-is_empty.false

-- none of which is zero
whole : (c : goal.After-place) → HasNoZero c.in_ok-key.key.items
whole c = rw c.in_ok-key.ensures.items c.requires

-- what is kept
kept : (c : goal.After-place) → IsIndexed c.place.new.names.entries c.place.new.table
kept c =
    kept-placed c.in_ok-key.key c.self.inside.names.entries c.self.inside.table (filled c) (whole c) c.self.invariant
    c.place.new.names.entries c.place.new.table _ _ refl refl c.place.result c.place.ensures.placed c.place.ensures.same_names c.place.ensures.same_table

pub invariant_of-self : goal.invariant_of-self
invariant_of-self c = kept c

pub returns-clause-names : goal.returns-clause-names
returns-clause-names c =
    names-placed c.in_ok-key.key c.self.inside.names.entries c.self.inside.table (filled c) (whole c) c.self.invariant
    c.place.new.names.entries c.place.new.table c.args.self.now c.args.name.now c.self.view_is c.in_ok-key.ensures.items c.place.result c.place.ensures.placed

pub returns-clause-strx : goal.returns-clause-strx
returns-clause-strx c =
    offset-placed c.in_ok-key.key c.self.inside.names.entries c.self.inside.table (filled c) (whole c) c.self.invariant
    c.place.new.names.entries c.place.new.table c.args.self.now c.args.name.now c.self.view_is c.in_ok-key.ensures.items c.place.result c.place.ensures.placed

pub returns-clause-fits : goal.returns-clause-fits
returns-clause-fits c = rw (size_of-indexed _ _ (kept c)) (kept c).within

pub returns-clause-refused : goal.returns-clause-refused
returns-clause-refused c =
    refused-placed c.in_ok-key.key c.self.inside.names.entries c.self.inside.table (filled c) (whole c) c.self.invariant
    c.place.new.names.entries c.place.new.table c.args.self.now c.args.name.now c.self.view_is c.in_ok-key.ensures.items c.place.result
    c.place.ensures.refused c.place.ensures.new
