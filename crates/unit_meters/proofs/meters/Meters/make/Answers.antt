use Rattle.std.proofs.Common.{◌≡◌, ◌∙◌, map}
use Rattle.unit_meters.specs.Begins.{begin_time}
use Rattle.unit_meters.proofs.TimeLemmas.{begins_are, waiting_from, waiting_within}
use Rattle.unit_meters.proofs.meters.Meters.make.Goals as goal

pub times_of-requires : goal.times_of-requires
times_of-requires c = c.requires.measures

pub returns : goal.returns
returns c now early =
    let ms = c.args.measures.now in
    let times = c.as_slice.result.now in
    let are : times ≡ map begin_time ms = c.as_slice.ensures.value ∙ c.in_ok-times.ensures in
    record {
      waits = record {
        proper = c.requires.measures;
        begins = λ tick low. begins_are ms times _ are c.in_ok-waiting.ensures.at_time tick;
        list = waiting_from now ms times _ early are c.requires.measures c.in_ok-waiting.ensures.placed;
        within = waiting_within ms times _ are c.in_ok-waiting.ensures.placed;
      };
      ru = c.make-2.ensures;
      du = c.make-3.ensures;
    }
