use Rattle.bincl_match.proofs.OwnLemmas.{walk_more}
use Rattle.bincl_match.proofs.owning.Owners.pass.Goals as goal

-- past the entry
pub returns-clause-walked : goal.returns-clause-walked
returns-clause-walked c = λ all files was.
    walk_more all files c.args.entry.now c.args.behind.now c.args.self.now c.begins_stab-begins.result c.leaves_ready-ready.result c.file-file.result c.pass.new.self c.goes_on-self.result
    c.note.new.flags was c.requires.inside c.begins_stab-begins.ensures (c.file-file.ensures was.back was.nest) c.leaves_ready-ready.ensures c.note.ensures.count c.note.ensures.each
    (c.in_ok-pass.ensures.nests was.back was.nest) c.goes_on-self.ensures
