-- What was told, frame by frame.
use Rattle.std.proofs.Common.{◌≡◌, ◌≢◌, ℕ, ℤ, ◌+◌, ◌^◌, ◌<◌, inl, List, [], ◌∷◌, ◌++◌, length, map, Option, Some, None, refl, ap, ap₂, sym, ◌∙◌, subst, arith, append_assoc, append-nil, length-append}
use Rattle.std.specs.List.{flat_map}
use Rattle.std.proofs.lemmas.Grind.{flat_map-append}
use Rattle.air_source.specs.declared.events.Side.TheVariants.{Ru}
use Rattle.fh_base.specs.Told.{WritesFront, WritesPart}
use Rattle.fh_base.specs.Owed.{Carried}
use Rattle.fh_base.specs.CarriedLaws.{carried_more, carried_none}
use Rattle.fh_base.proofs.Carrying.{front_behind}
use Rattle.fh_base.proofs.Parts.{front_part, part_behind}
use Rattle.fh_base.proofs.OwedTelling.{front_before}
use Rattle.fh_document.specs.Proper.{IsDocument}
use Rattle.fh_document.specs.declared.delivered.TrafficClass.{TrafficClass}
use Rattle.fh_document.specs.declared.document.Document.{Document}
use Rattle.frame_ways.specs.Copies.{DeliveriesTo, copies_of, deliveries_to}
use Rattle.du_scheduler.specs.Queues.{Gives, StandsFor}
use Rattle.du_scheduler.specs.declared.queue.Queue.{Queue}
use Rattle.du_scheduler.specs.declared.turns.Turn.{Turn}
use Rattle.plan_model.specs.Sent.{SentFrame}
use Rattle.plan_model.specs.Valid.{IsValid}
use Rattle.schedule_laws.specs.TabledPlans.{IsTabledPlan}
use Rattle.du_scheduler.specs.Tables.{IsTable}
use Rattle.du_scheduler.specs.declared.tables.Table.{Table}
use Rattle.du_scheduler.specs.Runs.{turn_of}
use Rattle.document_traffic.specs.Sending.{SentCounts, class_of, lines_of, none_sent, sent_for}
use Rattle.document_traffic.proofs.LineLemmas.{lines_fit}
use Rattle.document_texts.specs.SentLines.{frame_line_text}
use Rattle.document_texts.specs.declared.lines.FrameLine.{FrameLine}
use Rattle.document_texts.specs.Frames.{IsTabled, IsTurnFor}
use Rattle.document_texts.specs.Rows.{SentRow, line_for, number_of, row_of, rows_behind, rows_of, with_frame}
use Rattle.document_texts.specs.SentText.{end_text, row_text, sent_text}
use Rattle.document_texts.specs.Told.{HasCounted, IsTally}
use Rattle.document_texts.specs.declared.tally.Tally.{Tally}
use Rattle.document_texts.proofs.FewLemmas.{sent_few}
use Rattle.document_texts.proofs.FrameLemmas.{class_here}
use Rattle.fh_base.specs.Members.{IsIn}
use Rattle.fh_base.proofs.MemberLemmas.{in_right}

-- some frames of the document were given, and their lines told
pub record Stands (d : Document) (t : Tally) (q : Queue) (w : Option (List ℕ)) (o : List ℕ) (v : Option (List ℕ)) (p : List ℕ) : Type 0 where
  pub counts : SentCounts
  pub told : List SentRow
  pub given : List SentFrame
  pub left : List SentFrame
  pub frames : sent_for d ≡ given ++ left
  pub rows : rows_of d ≡ told ++ rows_behind d counts left
  pub tally : IsTally counts t
  pub number : t.commands + t.fragments ≡ length given
  pub stands : StandsFor q (map turn_of left)
  pub carried : Carried w o (flat_map row_text told) v p

pub none_told : (d : Document) (t : Tally) (q : Queue) (w : Option (List ℕ)) (o : List ℕ) → t.commands ≡ 0 → t.fragments ≡ 0 → StandsFor q (map turn_of (sent_for d)) → Stands d t q w o w o
none_told d t q w o c f stands = record {
  counts = none_sent;
  told = [];
  given = [];
  left = sent_for d;
  frames = refl;
  rows = refl;
  tally = (c, f);
  number = omega (arith, c, f);
  stands = stands;
  carried = carried_none w o;
}

-- ---- the next frame

pub record IsNext (d : Document) (left : List SentFrame) (turn : Turn) (q : Queue) : Type 0 where
  pub f : SentFrame
  pub rest : List SentFrame
  pub is : left ≡ f ∷ rest
  pub turn_is : turn ≡ turn_of f
  pub stands : StandsFor q (map turn_of rest)

pub next_of : (d : Document) (left : List SentFrame) (turn : Turn) (q : Queue) → Gives (map turn_of left) (Some turn) q → IsNext d left turn q
next_of d [] turn q g = let e = g.1 in absurd cc
next_of d (f ∷ rest) turn q g =
    let e = g.1 in
    record { f = f; rest = rest; is = refl; turn_is = cc; stands = (let same : g.0 ≡ map turn_of rest = cc in subst (StandsFor q) same g.2) }

none_left : (left : List SentFrame) (q : Queue) → Gives (map turn_of left) None q → left ≡ []
none_left [] q g = refl
none_left (f ∷ rest) q g = let e = g.0 in absurd cc

pub tabled_plan : (d : Document) → IsDocument d → IsValid d.config d.plan → IsTabledPlan d.config (lines_of d)
tabled_plan d is valid = record { lines = d.plan; fit = lines_fit d.plan is.plan; valid = valid; few = is.few; is = refl }

few_given : (given left : List SentFrame) (f : SentFrame) (rest all : List SentFrame) → all ≡ given ++ left → left ≡ f ∷ rest → length all < 2 ^ 40 → length given < 2 ^ 40
few_given given left f rest all is left_is few =
    let long = ap length is ∙ length-append given left in
    omega (arith, long, few)

module _ (d : Document) (is : IsDocument d) (valid : IsValid d.config d.plan) (t : Tally) (q : Queue) (w : Option (List ℕ)) (o : List ℕ) (v : Option (List ℕ)) (p : List ℕ) (s : Stands d t q w o v p) (turn : Turn) (next : Queue)
    (g : Gives (map turn_of s.left) (Some turn) next) where
  pub n : IsNext d s.left turn next
  n = next_of d s.left turn next g

  pub turn_for : IsTurnFor d n.f turn
  turn_for = record {
    document = is;
    valid = valid;
    there = subst (λ (fs : List SentFrame). IsIn n.f fs) (sym s.frames) (in_right n.f s.given s.left (subst (λ (fs : List SentFrame). IsIn n.f fs) (sym n.is) (inl refl)));
    is = n.turn_is;
  }

  pub is_tabled : (table : Table) → IsTable d.config (lines_of d) table → IsTabled d table turn
  is_tabled table table_is = record { frame = n.f; turn = turn_for; table_is = table_is }

  pub room : t.commands + t.fragments < 2 ^ 40
  room =
      let few = few_given s.given s.left n.f n.rest (sent_for d) s.frames n.is (sent_few d.config (lines_of d) is.config (tabled_plan d is valid)) in
      let number = s.number in
      omega (arith, few, number)

  same_class : class_of turn.stream ≡ class_of n.f.stream
  same_class = class_here d n.f turn turn_for

  counted_is : (class : TrafficClass) (new : Tally) (k : ℕ) → class ≡ class_of turn.stream → HasCounted class t new k → IsTally (with_frame n.f s.counts) new × (k ≡ number_of n.f (with_frame n.f s.counts))
  counted_is class new k class_is has =
      subst (λ (c : TrafficClass). HasCounted c t new k → IsTally (with_frame n.f s.counts) new × (k ≡ number_of n.f (with_frame n.f s.counts))) (sym (class_is ∙ same_class)) (λ h. h s.counts s.tally) has

  -- the line that is told is the frame's
  line_told : (class : TrafficClass) (new : Tally) (k : ℕ) (frame : FrameLine) (e : DeliveriesTo) (copies : List ℤ) → class ≡ class_of turn.stream → HasCounted class t new k → frame ≡ line_for d k n.f
      → e ≡ deliveries_to d Ru → copies ≡ copies_of e.document e.side class k → frame_line_text frame copies ≡ row_text (row_of d (with_frame n.f s.counts) n.f)
  line_told class new k frame e copies class_is has frame_is of_d copies_is =
      let number = (counted_is class new k class_is has).1 in
      ap₂ (λ (x : FrameLine) (cs : List ℤ). frame_line_text x cs) (frame_is ∙ ap (λ (i : ℕ). line_for d i n.f) number)
      (copies_is ∙ ap (λ (x : DeliveriesTo). copies_of x.document x.side class k) of_d ∙ ap₂ (λ (c : TrafficClass) (i : ℕ). copies_of d Ru c i) (class_is ∙ same_class) number)

  pub text_told : (class : TrafficClass) (new : Tally) (k : ℕ) (frame : FrameLine) (e : DeliveriesTo) (copies : List ℤ) → class ≡ class_of turn.stream → HasCounted class t new k
      → ((f : SentFrame) → IsTurnFor d f turn → frame ≡ line_for d k f) → e ≡ deliveries_to d Ru → copies ≡ copies_of e.document e.side class k
      → frame_line_text frame copies ≡ row_text (row_of d (with_frame n.f s.counts) n.f)
  text_told class new k frame e copies class_is has frame_is of_d copies_is = line_told class new k frame e copies class_is has (frame_is n.f turn_for) of_d copies_is

  told_more : flat_map row_text (s.told ++ row_of d (with_frame n.f s.counts) n.f ∷ []) ≡ flat_map row_text s.told ++ row_text (row_of d (with_frame n.f s.counts) n.f)
  told_more =
      flat_map-append row_text s.told (row_of d (with_frame n.f s.counts) n.f ∷ [])
      ∙ ap (λ (x : List ℕ). flat_map row_text s.told ++ x) (append-nil (row_text (row_of d (with_frame n.f s.counts) n.f)))

  all_rows : rows_of d ≡ (s.told ++ row_of d (with_frame n.f s.counts) n.f ∷ []) ++ rows_behind d (with_frame n.f s.counts) n.rest
  unfolding rows_behind
  all_rows =
      s.rows ∙ ap (λ (fs : List SentFrame). s.told ++ rows_behind d s.counts fs) n.is
      ∙ sym (append_assoc s.told (row_of d (with_frame n.f s.counts) n.f ∷ []) (rows_behind d (with_frame n.f s.counts) n.rest))

  pub told_next : (class : TrafficClass) (new : Tally) (k : ℕ) (text : List ℕ) (u : Option (List ℕ)) (r : List ℕ) → class ≡ class_of turn.stream → HasCounted class t new k
      → new.commands + new.fragments ≡ t.commands + t.fragments + 1 → text ≡ row_text (row_of d (with_frame n.f s.counts) n.f) → Carried v p text u r → Stands d new next w o u r
  told_next class new k text u r class_is has more text_is told = record {
    counts = with_frame n.f s.counts;
    told = s.told ++ row_of d (with_frame n.f s.counts) n.f ∷ [];
    given = s.given ++ n.f ∷ [];
    left = n.rest;
    frames = s.frames ∙ ap (λ (fs : List SentFrame). s.given ++ fs) n.is ∙ sym (append_assoc s.given (n.f ∷ []) n.rest);
    rows = all_rows;
    tally = (counted_is class new k class_is has).0;
    number = (let long = length-append s.given (n.f ∷ []) in let number = s.number in omega (arith, more, long, number));
    stands = n.stands;
    carried = subst (λ (x : List ℕ). Carried w o x u r) (sym told_more) (carried_more w v u o p r _ _ s.carried (subst (λ (x : List ℕ). Carried v p x u r) text_is told));
  }

  -- a front of a line is one of all lines
  pub told_cut : (text : List ℕ) (u : Option (List ℕ)) → text ≡ row_text (row_of d (with_frame n.f s.counts) n.f) → WritesFront v u (p ++ text) → WritesFront w u (o ++ flat_map row_text (rows_of d))
  told_cut text u text_is front =
      let row = row_of d (with_frame n.f s.counts) n.f in
      let rest = rows_behind d (with_frame n.f s.counts) n.rest in
      let here = front_behind w o (flat_map row_text s.told) v p text u s.carried front in
      let more = front_before w u o (flat_map row_text s.told ++ text) (flat_map row_text rest) here in
      subst (λ (x : List ℕ). WritesFront w u (o ++ x))
      (ap (λ (x : List ℕ). (flat_map row_text s.told ++ x) ++ flat_map row_text rest) text_is
      ∙ ap (λ (x : List ℕ). x ++ flat_map row_text rest) (sym told_more)
      ∙ sym (flat_map-append row_text (s.told ++ row ∷ []) rest)
      ∙ ap (flat_map row_text) (sym all_rows))
      more

-- ---- the end

pub all_told : (d : Document) (t : Tally) (q next : Queue) (w : Option (List ℕ)) (o : List ℕ) (v : Option (List ℕ)) (p : List ℕ) (s : Stands d t q w o v p) → Gives (map turn_of s.left) None next
    → Carried w o (flat_map row_text (rows_of d)) v p
unfolding rows_behind
all_told d t q next w o v p s g =
    let none = none_left s.left next g in
    let all : rows_of d ≡ s.told = s.rows ∙ ap (λ (fs : List SentFrame). s.told ++ rows_behind d s.counts fs) none ∙ append-nil s.told in
    subst (λ (rs : List SentRow). Carried w o (flat_map row_text rs) v p) (sym all) s.carried

-- ---- the whole text

some_end : end_text ≢ []
some_end h = absurd (cc h)

module _ (d : Document) where
  abbrev lines_text : List ℕ
  lines_text = flat_map row_text (rows_of d)

  -- a front of the lines was written
  pub lines_cut : (w v : Option (List ℕ)) (o : List ℕ) → o ≡ [] → WritesFront w v (o ++ lines_text) → WritesPart w v (sent_text d)
  unfolding sent_text
  lines_cut w v o none front = front_part w v lines_text end_text some_end (subst (λ (t : List ℕ). WritesFront w v (t ++ lines_text)) none front)

  -- all of them, and a part of what follows
  pub end_cut : (w v u : Option (List ℕ)) (o p : List ℕ) → o ≡ [] → Carried w o lines_text v p → WritesPart v u (p ++ end_text) → WritesPart w u (sent_text d)
  unfolding sent_text
  end_cut w v u o p none told part = subst (λ (t : List ℕ). WritesPart w u (t ++ (lines_text ++ end_text))) none (part_behind w o lines_text v p end_text u told part)

  pub whole_told : (w v u : Option (List ℕ)) (o p q : List ℕ) → Carried w o lines_text v p → Carried v p end_text u q → Carried w o (sent_text d) u q
  unfolding sent_text
  whole_told w v u o p q told end = carried_more w v u o p q lines_text end_text told end
