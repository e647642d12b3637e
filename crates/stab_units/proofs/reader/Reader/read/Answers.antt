use Rattle.stab_units.proofs.ReadingLemmas.{read_more, read_fault}
use Rattle.stab_units.proofs.reader.Reader.read.Goals as goal

-- past the entry
pub returns-in-Ok-clause-found : goal.returns-in-Ok-clause-found
returns-in-Ok-clause-found g c = λ all names start was.
    read_more all names start c.args.place c.args.entry.now c.args.behind.now c.args.self.now c.args.steps.now c.requires.inside was
    c.begins_stab-begins.result c.begins_stab-begins.ensures c.file-file.result (c.file-file.ensures was.back was.nest)
    (record { nest = c.pass.new.self; going = c.goes_on-self.result; files = c.take_stab.new.files; body = c.take_stab.new.body }) c.take_stab.new.steps
    c.in-Ok.ensures.found c.in-Ok.ensures.ticks (c.in_ok-pass.ensures.nests was.back was.nest) c.goes_on-self.ensures

-- the string of the entry has the fault
pub returns-in-Err-clause-stopped : goal.returns-in-Err-clause-stopped
returns-in-Err-clause-stopped g c = λ f is all names start was.
    read_fault all names start c.args.place c.args.entry.now c.args.behind.now c.args.self.now c.args.steps.now c.requires.inside was
    c.begins_stab-begins.result c.begins_stab-begins.ensures c.file-file.result (c.file-file.ensures was.back was.nest) f c.take_stab.new.steps (c.in-Err.ensures.stopped f is)
