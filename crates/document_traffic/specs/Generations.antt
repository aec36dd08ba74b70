-- What the generations of fragments hold at a unit (eCPRI 2.0, sequence id of message type 0; generations are this project's profile).
use Rattle.std.specs.Prelude.{◌≡◌, ℕ, ◌<◌, List, All}
use Rattle.ecpri_fragments.specs.Generations.{Fragment, Generation, generations_of}
use Rattle.fragment_laws.specs.Apart.{of_message}
use Rattle.fragment_laws.specs.Flow.{Bounds, Flow, IsCopyOf, numbers_of}
use Rattle.fh_base.specs.Members.{IsIn}

-- A generation of an endpoint's fragments holds fragments of one message only, which was sent, and every copy of them that was received:
-- they are what was received of this message, each copy as often as it was received, the newest first.
pub record HoldsOneMessage (b : Bounds) (flow : ℕ → Flow) (came : List Fragment) (ep : ℕ) (g : Generation) : Type 0 where
  pub message : ℕ
  pub was_sent : message < (flow ep).count
  pub only : (a : Fragment) → IsIn a g.held → (a.ep ≡ ep) × IsCopyOf b (flow ep) message a
  pub every : (a : Fragment) → IsIn a came → a.ep ≡ ep → IsCopyOf b (flow ep) message a → IsIn a g.held
  pub held_is : g.held ≡ of_message (numbers_of b flow) ep message came

-- so does each generation, of each endpoint and sequence id
abbrev pub EachHoldsOneMessage : Bounds → (ℕ → Flow) → List Fragment → Type 0
EachHoldsOneMessage b flow came = (ep id : ℕ) → All (HoldsOneMessage b flow came ep) (generations_of b.hold ep id came)
