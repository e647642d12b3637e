use Rattle.unit_outlines.specs.declared.outline_types.Marks.TheVariants.{Object}
use Rattle.header_merge.specs.Merged.{change_of}
use Rattle.header_merge.proofs.LawLemmas.{locals_go, merged_world_by}
use Rattle.header_merge.proofs.laws.merged_world.Goals as goal

-- what goes are N_LSYM stabs, so that the units of the entries are those of the old ones, changed
pub returns : goal.returns
returns c = record {
  world = λ text_end entries ranges g world are merging of.
      let gone = locals_go c.one_units.ensures.one text_end entries ranges are g merging in
      merged_world_by
      (record {
        differ = λ s t first second same. (c.shape_laws.ensures.only_files s t first second).0 same;
        known = c.shape_laws.ensures.known;
        again = c.shape_laws.ensures.again;
        files_new = c.shape_laws.ensures.files_new;
      })
      c.one_units.ensures.one c.one_ranges.ensures.lawful text_end entries ranges g world are merging of
      (c.changed_law.ensures.outline Object (change_of g) text_end entries are.are_units.no_fault gone)
      (c.changed_law.ensures.spans Object (change_of g) text_end entries are.are_units.no_fault gone);
}
