use Rattle.ecpri_fragments.proofs.Numbers.{below}
use Rattle.ecpri_fragments.proofs.assembly.Assembly.take.Goals as goal

pub taken-requires : goal.taken-requires
taken-requires c h =
    let pool = c.put-number.new.self.pool in
    below pool.numbers.items _ _ pool.once _ c.put-number.result.0 (c.put-number.ensures.has h)
