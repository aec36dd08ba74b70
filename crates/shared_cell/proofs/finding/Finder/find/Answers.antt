use Rattle.std.proofs.Common.{◌∙◌, sym}
use Rattle.shared_cell.proofs.Finders.{found_in_all, new_beyond, position_is}
use Rattle.shared_cell.proofs.finding.Finder.find.Goals as goal

-- a place beyond the greatest is new
pub returns-then-is_beyond-clause-value : goal.returns-then-is_beyond-clause-value
returns-then-is_beyond-clause-value c =
    sym (new_beyond c.args.self.now.greatest c.args.place.now c.args.mixed.now (sym c.is_beyond.ensures ∙ c.if-is_beyond.true) c.requires.below)

-- the map has all combined cells
pub returns-in-Ok-clause-value : goal.returns-in-Ok-clause-value
returns-in-Ok-clause-value c =
    c.copied.ensures ∙ c.get.ensures.value ∙ found_in_all c.map_all.new.self c.args.mixed.now c.args.place.now c.map_all.ensures.finds c.in-Ok.ensures.all

-- they are searched one by one
pub returns-in-Err-clause-value : goal.returns-in-Err-clause-value
returns-in-Err-clause-value c = c.search.ensures ∙ position_is c.args.place.now c.args.mixed.now
