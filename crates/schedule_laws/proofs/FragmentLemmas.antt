-- The fragments of arrivals are delivered flows; and what each of them makes of its message.
use Rattle.std.proofs.Common.{◌≡◌, ℕ, ℤ, ◌≤ℤ◌, inl, inr, Bool, true, false, ◌&&◌, ◌==◌, if◌then◌else◌, List, [], ◌∷◌, ◌++◌, refl, ap, sym, ◌∙◌, subst}
use Rattle.std.proofs.lemmas.Bool.{and_parts, and_from, eq-eqb, eqb-true}
use Rattle.air_source.specs.declared.events.Side.TheVariants.{Ru}
use Rattle.ecpri_fragments.specs.Generations.{Fragment}
use Rattle.ecpri_fragments.specs.Verdicts.{standing_before}
use Rattle.ecpri_fragments.specs.declared.verdict.Verdict.TheVariants.{Stored, Whole, Repeat}
use Rattle.fragment_laws.specs.Apart.{IsFalling, Numbers, number_of}
use Rattle.fragment_laws.specs.Flow.{Bounds, Flow}
use Rattle.fragment_laws.specs.Once.{Answered, IsOnceWhole, answered, answers}
use Rattle.window_config.specs.declared.config.Config.{Config}
use Rattle.window_config.specs.declared.endpoints.EndpointConfig.{EndpointConfig}
use Rattle.fh_base.specs.Lists.{onto}
use Rattle.unit_model.specs.Meetings.{Arrival, Meeting, Commands, Piece, fragments, meetings}
use Rattle.unit_model.specs.declared.decoded.ControlSection.{ControlSection}
use Rattle.plan_model.specs.Sent.{SentFrame}
use Rattle.plan_model.specs.declared.streams.Stream.{Stream}
use Rattle.plan_model.specs.declared.streams.Stream.TheVariants.{DownCommands, UpCommands, DownData, UpData}
use Rattle.schedule_laws.specs.Premise.{AreInOrder, IsCopyOf, IsReadBy, Texts, fragment_at}
use Rattle.schedule_laws.proofs.ReadingLemmas.{AreCopies, a_command, a_piece, read_of, reading}
use Rattle.fh_base.specs.Members.{IsIn}
use Rattle.fh_base.proofs.MemberLemmas.{in_right, in_either}

-- ---- one arrival more

pub fragments_command : (c : Config) (a : Arrival) (earlier : List Arrival) (d : ControlSection) → read_of c a ≡ Commands (d ∷ []) ∷ []
    → fragments (meetings Ru c.endpoints (a ∷ earlier)) ≡ fragments (meetings Ru c.endpoints earlier)
unfolding meetings onto fragments
fragments_command c a earlier d e = ap (λ (ms : List Meeting). fragments (onto (meetings Ru c.endpoints earlier) ms)) e

pub fragments_piece : (c : Config) (a : Arrival) (earlier : List Arrival) (e : EndpointConfig) (x : Fragment) → read_of c a ≡ Piece e x ∷ []
    → fragments (meetings Ru c.endpoints (a ∷ earlier)) ≡ x ∷ fragments (meetings Ru c.endpoints earlier)
unfolding meetings onto fragments
fragments_piece c a earlier e x h = ap (λ (ms : List Meeting). fragments (onto (meetings Ru c.endpoints earlier) ms)) h

-- ---- all of them

-- a fragment that was received is that of a copy
pub record HeardPiece (c : Config) (text : Texts) (frames : List SentFrame) (arrivals : List Arrival) (x : Fragment) : Type 0 where
  pub a : Arrival
  pub came : IsIn a arrivals
  pub f : SentFrame
  pub sent_is : IsIn f frames
  pub copy : IsCopyOf c text f a
  pub stream : f.stream ≡ DownData
  pub is : x ≡ fragment_at c text f a.at

piece_by : (c : Config) (text : Texts) (f : SentFrame) (a : Arrival) (s : Stream) → s ≡ DownData → IsReadBy s c text f a (read_of c a) → read_of c a ≡ Piece f.endpoint (fragment_at c text f a.at) ∷ []
piece_by c text f a DownData e r = r
piece_by c text f a DownCommands e r = absurd cc
piece_by c text f a UpCommands e r = absurd cc
piece_by c text f a UpData e r = absurd cc

-- a copy of data is read as its fragment
pub piece_read : (c : Config) (text : Texts) (f : SentFrame) (a : Arrival) → f.stream ≡ DownData → IsCopyOf c text f a → read_of c a ≡ Piece f.endpoint (fragment_at c text f a.at) ∷ []
piece_read c text f a e copy = piece_by c text f a f.stream e copy.read

module _ (c : Config) (text : Texts) (frames : List SentFrame) where
  longer : (a : Arrival) (earlier : List Arrival) (x : Fragment) → HeardPiece c text frames earlier x → HeardPiece c text frames (a ∷ earlier) x
  longer a earlier x h = record { a = h.a; came = inr h.came; f = h.f; sent_is = h.sent_is; copy = h.copy; stream = h.stream; is = h.is }

  pub heard_piece : (arrivals : List Arrival) → AreCopies c text frames arrivals → (x : Fragment) → IsIn x (fragments (meetings Ru c.endpoints arrivals)) → HeardPiece c text frames arrivals x
  unfolding meetings fragments
  heard_piece [] came x m = absurd m
  heard_piece (a ∷ earlier) came x m =
      let w = came a (inl refl) in
      elim (reading c text w.0 a w.2) [
        | a_command stream r ↦ longer a earlier x (heard_piece earlier (λ b n. came b (inr n)) x (subst (λ (xs : List Fragment). IsIn x xs) (fragments_command c a earlier r.command r.is) m))
        | a_piece e r ↦ elim (subst (λ (xs : List Fragment). IsIn x xs) (fragments_piece c a earlier w.0.endpoint (fragment_at c text w.0 a.at) r) m) [
          | inl here ↦ record { a = a; came = inl refl; f = w.0; sent_is = w.1; copy = w.2; stream = e; is = here }
          | inr there ↦ longer a earlier x (heard_piece earlier (λ b n. came b (inr n)) x there)
        ]
      ]

  pub told_piece : (arrivals : List Arrival) → AreCopies c text frames arrivals → (a : Arrival) (e : EndpointConfig) (x : Fragment) → IsIn a arrivals → read_of c a ≡ Piece e x ∷ []
      → IsIn x (fragments (meetings Ru c.endpoints arrivals))
  told_piece [] came a e x m h = absurd m
  told_piece (b ∷ earlier) came a e x m h = elim m [
    | inl here ↦
        let h_b : read_of c b ≡ Piece e x ∷ [] = ap (read_of c) (sym here) ∙ h in
        subst (λ (xs : List Fragment). IsIn x xs) (sym (fragments_piece c b earlier e x h_b)) (inl refl)
    | inr there ↦
        let rest = told_piece earlier (λ y n. came y (inr n)) a e x there h in
        let w = came b (inl refl) in
        elim (reading c text w.0 b w.2) [
          | a_command stream r ↦ subst (λ (xs : List Fragment). IsIn x xs) (sym (fragments_command c b earlier r.command r.is)) rest
          | a_piece f r ↦ subst (λ (xs : List Fragment). IsIn x xs) (sym (fragments_piece c b earlier w.0.endpoint (fragment_at c text w.0 b.at) r)) (inr rest)
        ]
  ]

  -- their times do not go back
  pub falling : (arrivals : List Arrival) → AreCopies c text frames arrivals → AreInOrder arrivals → IsFalling (fragments (meetings Ru c.endpoints arrivals))
  unfolding meetings fragments
  falling [] came order = tt
  falling (a ∷ earlier) came order =
      let w = came a (inl refl) in
      let rest = falling earlier (λ b n. came b (inr n)) order.1 in
      elim (reading c text w.0 a w.2) [
        | a_command stream r ↦ subst IsFalling (sym (fragments_command c a earlier r.command r.is)) rest
        | a_piece e r ↦ subst IsFalling (sym (fragments_piece c a earlier w.0.endpoint (fragment_at c text w.0 a.at) r)) (
          λ x m. (let y = heard_piece earlier (λ b n. came b (inr n)) x m in subst (λ (z : Fragment). z.at ≤ℤ a.at) (sym y.is) (order.0 y.a y.came)),
          rest,
        )
      ]

-- ---- the answers to the arrivals of a message

pub answers_there : (hold : ℤ) (num : Numbers) (later earlier : List Fragment) (x : Fragment) → IsIn (answered (standing_before hold x earlier) x) (answers hold num x.ep (number_of num x) (later ++ x ∷ earlier))
answers_there hold num [] earlier x =
    let own : ((x.ep == x.ep) && (number_of num x == number_of num x)) ≡ true = and_from _ _ (eq-eqb x.ep x.ep refl) (eq-eqb (number_of num x) (number_of num x) refl) in
    subst (λ (b : Bool). IsIn (answered (standing_before hold x earlier) x)
    (if b then answered (standing_before hold x earlier) x ∷ answers hold num x.ep (number_of num x) earlier else answers hold num x.ep (number_of num x) earlier)) (sym own) (inl refl)
answers_there hold num (y ∷ later) earlier x = go ((y.ep == x.ep) && (number_of num y == number_of num x)) (answers_there hold num later earlier x)
  where
    go : (b : Bool) → IsIn (answered (standing_before hold x earlier) x) (answers hold num x.ep (number_of num x) (later ++ x ∷ earlier))
        → IsIn (answered (standing_before hold x earlier) x)
        (if b then answered (standing_before hold y (later ++ x ∷ earlier)) y ∷ answers hold num x.ep (number_of num x) (later ++ x ∷ earlier) else answers hold num x.ep (number_of num x) (later ++ x ∷ earlier))
    go true m = inr m
    go false m = m

-- one of them is that of a fragment after others
pub record IsAnswer (hold : ℤ) (num : Numbers) (ep j : ℕ) (all : List Fragment) (y : Answered) : Type 0 where
  pub later : List Fragment
  pub x : Fragment
  pub earlier : List Fragment
  pub is : all ≡ later ++ x ∷ earlier
  pub answer : y ≡ answered (standing_before hold x earlier) x
  pub ep_is : x.ep ≡ ep
  pub number : number_of num x ≡ j

further : (hold : ℤ) (num : Numbers) (ep j : ℕ) (a : Fragment) (all : List Fragment) (y : Answered) → IsAnswer hold num ep j all y → IsAnswer hold num ep j (a ∷ all) y
further hold num ep j a all y w =
    record { later = a ∷ w.later; x = w.x; earlier = w.earlier; is = ap (λ (xs : List Fragment). a ∷ xs) w.is; answer = w.answer; ep_is = w.ep_is; number = w.number }

pub answers_from : (hold : ℤ) (num : Numbers) (ep j : ℕ) (all : List Fragment) (y : Answered) → IsIn y (answers hold num ep j all) → IsAnswer hold num ep j all y
answers_from hold num ep j [] y m = absurd m
answers_from hold num ep j (a ∷ all) y m = go ((a.ep == ep) && (number_of num a == j)) refl m (λ n. further hold num ep j a all y (answers_from hold num ep j all y n))
  where
    go : (b : Bool) → ((a.ep == ep) && (number_of num a == j)) ≡ b → IsIn y (if b then answered (standing_before hold a all) a ∷ answers hold num ep j all else answers hold num ep j all)
        → (IsIn y (answers hold num ep j all) → IsAnswer hold num ep j (a ∷ all) y) → IsAnswer hold num ep j (a ∷ all) y
    go true e n rest =
        let parts = and_parts (a.ep == ep) (number_of num a == j) e in
        elim n [
          | inl same ↦ record { later = []; x = a; earlier = all; is = refl; answer = same; ep_is = eqb-true a.ep ep parts.0; number = eqb-true (number_of num a) j parts.1 }
          | inr t ↦ rest t
        ]
    go false e n rest = rest n

whole_repeat : Whole ≡ Repeat → ⊥
whole_repeat e = cc

whole_stored : Whole ≡ Stored → ⊥
whole_stored e = cc

-- of a message that is whole once, the one that is Whole is that one
pub the_whole : (b : Bounds) (f : Flow) (j : ℕ) (came : List Fragment) (all : List Answered) (w : IsOnceWhole b f j came all) (y : Answered) → IsIn y all → y.was ≡ Whole → y ≡ w.whole
the_whole b f j came all w y m e = elim (in_either y w.after (w.whole ∷ w.before) (subst (λ (ys : List Answered). IsIn y ys) w.is m)) [
  | inl after ↦ absurd (whole_repeat (sym e ∙ w.repeats y after))
  | inr rest ↦ elim rest [
    | inl here ↦ here
    | inr before ↦ elim (w.waits y before) [ inl s ↦ absurd (whole_stored (sym e ∙ s)) | inr r ↦ absurd (whole_repeat (sym e ∙ r)) ]
  ]
]

pub whole_in : (b : Bounds) (f : Flow) (j : ℕ) (came : List Fragment) (all : List Answered) (w : IsOnceWhole b f j came all) → IsIn w.whole all
whole_in b f j came all w = subst (λ (ys : List Answered). IsIn w.whole ys) (sym w.is) (in_right w.whole w.after (w.whole ∷ w.before) (inl refl))
