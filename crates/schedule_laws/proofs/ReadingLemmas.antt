-- The commands and fragments of arrivals each of which is one command or one fragment.
use Rattle.std.proofs.Common.{◌≡◌, inl, inr, List, [], ◌∷◌, refl, ap, sym, ◌∙◌, subst}
use Rattle.air_source.specs.declared.events.Side.TheVariants.{Ru}
use Rattle.ecpri_fragments.specs.Generations.{Fragment}
use Rattle.ecpri_frames.specs.Gathering.{whole_messages}
use Rattle.window_config.specs.declared.config.Config.{Config}
use Rattle.window_config.specs.declared.endpoints.EndpointConfig.{EndpointConfig}
use Rattle.fh_base.specs.Lists.{onto}
use Rattle.unit_model.specs.Meetings.{Arrival, Meeting, Commands, Piece, commands, meetings, met_in}
use Rattle.unit_model.specs.declared.decoded.ControlSection.{ControlSection}
use Rattle.plan_model.specs.Sent.{SentFrame}
use Rattle.plan_model.specs.declared.streams.Stream.{Stream}
use Rattle.plan_model.specs.declared.streams.Stream.TheVariants.{DownCommands, UpCommands, DownData, UpData}
use Rattle.schedule_laws.specs.Premise.{IsCommandFor, IsCopyOf, IsReadAsCommand, IsReadBy, Texts, fragment_at}
use Rattle.fh_base.specs.Members.{IsIn}

abbrev pub read_of : Config → Arrival → List Meeting
read_of c a = met_in Ru c.endpoints a.at (whole_messages a.frame)

abbrev pub IsCommandStream : Stream → Type 0
IsCommandStream DownCommands = Unit {0}
IsCommandStream UpCommands = Unit {0}
IsCommandStream DownData = ⊥
IsCommandStream UpData = ⊥

-- what an arrival is
pub data Reading (c : Config) (text : Texts) (f : SentFrame) (a : Arrival) : Type 0 where
  a_command : IsCommandStream f.stream → IsReadAsCommand f a (read_of c a) → Reading c text f a
  a_piece : f.stream ≡ DownData → read_of c a ≡ Piece f.endpoint (fragment_at c text f a.at) ∷ [] → Reading c text f a

reading_by : (c : Config) (text : Texts) (f : SentFrame) (a : Arrival) (s : Stream) → f.stream ≡ s → IsReadBy s c text f a (read_of c a) → Reading c text f a
reading_by c text f a DownCommands e r = a_command (subst IsCommandStream (sym e) tt) r
reading_by c text f a UpCommands e r = a_command (subst IsCommandStream (sym e) tt) r
reading_by c text f a DownData e r = a_piece e r
reading_by c text f a UpData e r = absurd r

pub reading : (c : Config) (text : Texts) (f : SentFrame) (a : Arrival) → IsCopyOf c text f a → Reading c text f a
reading c text f a copy = reading_by c text f a f.stream refl copy.read

command_by : (c : Config) (text : Texts) (f : SentFrame) (a : Arrival) (s : Stream) → IsCommandStream s → IsReadBy s c text f a (read_of c a) → IsReadAsCommand f a (read_of c a)
command_by c text f a DownCommands h r = r
command_by c text f a UpCommands h r = r
command_by c text f a DownData h r = absurd h
command_by c text f a UpData h r = absurd h

-- a copy of a command is read as one
pub command_read : (c : Config) (text : Texts) (f : SentFrame) (a : Arrival) → IsCommandStream f.stream → IsCopyOf c text f a → IsReadAsCommand f a (read_of c a)
command_read c text f a h copy = command_by c text f a f.stream h copy.read

-- ---- one arrival more

pub met_command : (c : Config) (a : Arrival) (earlier : List Arrival) (d : ControlSection) → read_of c a ≡ Commands (d ∷ []) ∷ []
    → commands (meetings Ru c.endpoints (a ∷ earlier)) ≡ d ∷ commands (meetings Ru c.endpoints earlier)
unfolding meetings onto commands
met_command c a earlier d e = ap (λ (ms : List Meeting). commands (onto (meetings Ru c.endpoints earlier) ms)) e

pub met_piece : (c : Config) (a : Arrival) (earlier : List Arrival) (e : EndpointConfig) (x : Fragment) → read_of c a ≡ Piece e x ∷ []
    → commands (meetings Ru c.endpoints (a ∷ earlier)) ≡ commands (meetings Ru c.endpoints earlier)
unfolding meetings onto commands
met_piece c a earlier e x h = ap (λ (ms : List Meeting). commands (onto (meetings Ru c.endpoints earlier) ms)) h

-- ---- all of them

-- a command that was received is that of a copy
pub record Heard (c : Config) (text : Texts) (frames : List SentFrame) (arrivals : List Arrival) (d : ControlSection) : Type 0 where
  pub a : Arrival
  pub came : IsIn a arrivals
  pub f : SentFrame
  pub sent_is : IsIn f frames
  pub copy : IsCopyOf c text f a
  pub stream : IsCommandStream f.stream
  pub at : d.at.0 ≡ a.at
  pub carries : IsCommandFor f.message.first.planned d

module _ (c : Config) (text : Texts) (frames : List SentFrame) where
  abbrev pub AreCopies : List Arrival → Type 0
  AreCopies arrivals = (a : Arrival) → IsIn a arrivals → (f : SentFrame) × IsIn f frames × IsCopyOf c text f a

  longer : (a : Arrival) (earlier : List Arrival) (d : ControlSection) → Heard c text frames earlier d → Heard c text frames (a ∷ earlier) d
  longer a earlier d h = record { a = h.a; came = inr h.came; f = h.f; sent_is = h.sent_is; copy = h.copy; stream = h.stream; at = h.at; carries = h.carries }

  pub heard : (arrivals : List Arrival) → AreCopies arrivals → (d : ControlSection) → IsIn d (commands (meetings Ru c.endpoints arrivals)) → Heard c text frames arrivals d
  unfolding meetings commands
  heard [] came d m = absurd m
  heard (a ∷ earlier) came d m =
      let w = came a (inl refl) in
      elim (reading c text w.0 a w.2) [
        | a_command stream r ↦ elim (subst (λ (xs : List ControlSection). IsIn d xs) (met_command c a earlier r.command r.is) m) [
          | inl here ↦ record {
            a = a;
            came = inl refl;
            f = w.0;
            sent_is = w.1;
            copy = w.2;
            stream = stream;
            at = ap (λ (x : ControlSection). x.at.0) here ∙ r.at;
            carries = subst (IsCommandFor w.0.message.first.planned) (sym here) r.for_line;
          }
          | inr there ↦ longer a earlier d (heard earlier (λ b n. came b (inr n)) d there)
        ]
        | a_piece e r ↦ longer a earlier d (heard earlier (λ b n. came b (inr n)) d (subst (λ (xs : List ControlSection). IsIn d xs) (met_piece c a earlier w.0.endpoint (fragment_at c text w.0 a.at) r) m))
      ]

  pub told : (arrivals : List Arrival) → AreCopies arrivals → (a : Arrival) (d : ControlSection) → IsIn a arrivals → read_of c a ≡ Commands (d ∷ []) ∷ []
      → IsIn d (commands (meetings Ru c.endpoints arrivals))
  told [] came a d m e = absurd m
  told (b ∷ earlier) came a d m e = elim m [
    | inl here ↦
        let e_b : read_of c b ≡ Commands (d ∷ []) ∷ [] = ap (read_of c) (sym here) ∙ e in
        subst (λ (xs : List ControlSection). IsIn d xs) (sym (met_command c b earlier d e_b)) (inl refl)
    | inr there ↦
        let rest = told earlier (λ x n. came x (inr n)) a d there e in
        let w = came b (inl refl) in
        elim (reading c text w.0 b w.2) [
          | a_command stream r ↦ subst (λ (xs : List ControlSection). IsIn d xs) (sym (met_command c b earlier r.command r.is)) (inr rest)
          | a_piece f r ↦ subst (λ (xs : List ControlSection). IsIn d xs) (sym (met_piece c b earlier w.0.endpoint (fragment_at c text w.0 b.at) r)) rest
        ]
  ]
