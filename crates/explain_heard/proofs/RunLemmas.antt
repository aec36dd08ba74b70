-- The open run and the lines of the closed ones, as items are given.
use Rattle.std.proofs.Common.{◌≡◌, ◌+◌, ℕ, Bool, true, false, List, [], ◌∷◌, ◌++◌, length, Option, Some, None, refl, sym, ap, subst, ◌∙◌, append_assoc, append-nil, arith}
use Rattle.std.proofs.lemmas.List.Concat.{flat_map-append}
use Rattle.explain_model.specs.declared.values.ExplainLine.{ExplainLine}
use Rattle.explain_model.specs.Pieces.{pieces, closed_pieces, open_piece, as_piece, goes_on}
use Rattle.explain_model.proofs.PieceLemmas.{runs}
use Rattle.explain_heard.specs.Runs.{AreRun, HasPut, IsOpen, StopsPutting, OpenRun, last_item, lines_of_runs, open_line, piece_line, run_lines, takes, with_item}
use Rattle.explain_heard.specs.Stops.{StopsInLine}

module _ {T : Type 0} (related : T → T → Bool) (run_line : T → ℕ → ExplainLine) where
  -- ---- the open run

  goes_last : (x : T) (xs : List T) (y : T) → goes_on related (x ∷ xs) y ≡ related (last_item x xs) y
  goes_last x [] y = refl
  goes_last x (z ∷ zs) y = goes_last z zs y

  goes_is : (p : List T) (o : Option (OpenRun T)) (y : T) → IsOpen p o → goes_on related p y ≡ takes related o y
  goes_is [] None y is = refl
  goes_is [] (Some o) y is = absurd is
  goes_is (x ∷ xs) None y is = absurd is
  goes_is (x ∷ xs) (Some o) y is = goes_last x xs y ∙ ap (λ z. related z y) (sym is.1)

  last_more : (x : T) (xs : List T) (y : T) → y ≡ last_item x (xs ++ y ∷ [])
  last_more x [] y = refl
  last_more x (z ∷ zs) y = last_more z zs y

  length_more : (x : T) (xs : List T) (y : T) → length (x ∷ xs) + 1 ≡ length (x ∷ (xs ++ y ∷ []))
  length_more x [] y = omega arith
  length_more x (z ∷ zs) y = let rest = length_more z zs y in omega (arith, rest)

  open_more : (p : List T) (o : Option (OpenRun T)) (y : T) → IsOpen p o → IsOpen (p ++ y ∷ []) (Some (with_item o y))
  open_more [] None y is = (refl, refl, refl)
  open_more [] (Some o) y is = absurd is
  open_more (x ∷ xs) None y is = absurd is
  open_more (x ∷ xs) (Some o) y is = (is.0, last_more x xs y, ap (λ n. n + 1) is.2 ∙ length_more x xs y)

  line_is : (p : List T) (o : Option (OpenRun T)) → IsOpen p o → lines_of_runs run_line (as_piece p) ≡ open_line run_line o
  line_is [] None is = refl
  line_is [] (Some o) is = absurd is
  line_is (x ∷ xs) None is = absurd is
  line_is (x ∷ xs) (Some o) is = ap (λ l. l ∷ []) (ap (λ z. run_line z (length (x ∷ xs))) (sym is.0) ∙ ap (run_line o.first) (sym is.2))

  line_alone : (p : List T) (o : Option (OpenRun T)) → IsOpen p o → lines_of_runs run_line (p ∷ []) ≡ open_line run_line o
  line_alone [] None is = refl
  line_alone [] (Some o) is = absurd is
  line_alone (x ∷ xs) None is = absurd is
  line_alone (x ∷ xs) (Some o) is = line_is (x ∷ xs) (Some o) is

  -- ---- what later items leave

  lines_append : (ps qs : List (List T)) → lines_of_runs run_line (ps ++ qs) ≡ lines_of_runs run_line ps ++ lines_of_runs run_line qs
  lines_append ps qs = flat_map-append (piece_line run_line) ps qs

  all_lines : (items : List T) → run_lines related run_line items
      ≡ lines_of_runs run_line (closed_pieces (pieces related items)) ++ lines_of_runs run_line (as_piece (open_piece (pieces related items)))
  all_lines items = ap (lines_of_runs run_line) ((runs T).split related items) ∙ lines_append (closed_pieces (pieces related items)) (as_piece (open_piece (pieces related items)))

  -- the closed runs of the first items are the first of all
  closed_stay : (items later : List T) → (more : List (List T)) × (closed_pieces (pieces related (items ++ later)) ≡ closed_pieces (pieces related items) ++ more)
  closed_stay items [] = ([], ap (λ xs. closed_pieces (pieces related xs)) (append-nil items) ∙ sym (append-nil (closed_pieces (pieces related items))))
  closed_stay items (y ∷ later) = one (goes_on related (open_piece (pieces related items)) y) refl (closed_stay (items ++ y ∷ []) later)
    where
      one : (b : Bool) → goes_on related (open_piece (pieces related items)) y ≡ b
          → (more : List (List T)) × (closed_pieces (pieces related ((items ++ y ∷ []) ++ later)) ≡ closed_pieces (pieces related (items ++ y ∷ [])) ++ more)
          → (more : List (List T)) × (closed_pieces (pieces related (items ++ y ∷ later)) ≡ closed_pieces (pieces related items) ++ more)
      one true is h = (
        h.0,
        ap (λ xs. closed_pieces (pieces related xs)) (sym (append_assoc items (y ∷ []) later)) ∙ h.1 ∙ ap (λ ps. ps ++ h.0) ((runs T).on_closed related items y is),
      )
      one false is h = (
        open_piece (pieces related items) ∷ h.0,
        ap (λ xs. closed_pieces (pieces related xs)) (sym (append_assoc items (y ∷ []) later)) ∙ h.1 ∙ ap (λ ps. ps ++ h.0) ((runs T).off_closed related items y is)
            ∙ append_assoc (closed_pieces (pieces related items)) (open_piece (pieces related items) ∷ []) h.0,
      )

  -- where an item does not go on with the open run, that run's line is the next of all
  next_line : (items : List T) (o : Option (OpenRun T)) (y : T) (later : List T) → IsOpen (open_piece (pieces related items)) o → takes related o y ≡ false
      → (back : List ExplainLine) × (run_lines related run_line (items ++ y ∷ later)
      ≡ lines_of_runs run_line (closed_pieces (pieces related items)) ++ (open_line run_line o ++ back))
  next_line items o y later is off =
      let stay = closed_stay (items ++ y ∷ []) later in
      let other : goes_on related (open_piece (pieces related items)) y ≡ false = goes_is (open_piece (pieces related items)) o y is ∙ off in
      let last : List (List T) = as_piece (open_piece (pieces related ((items ++ y ∷ []) ++ later))) in
      let closed : closed_pieces (pieces related ((items ++ y ∷ []) ++ later))
      ≡ closed_pieces (pieces related items) ++ (open_piece (pieces related items) ∷ []) ++ stay.0 =
      stay.1 ∙ ap (λ ps. ps ++ stay.0) ((runs T).off_closed related items y other) in (
        lines_of_runs run_line stay.0 ++ lines_of_runs run_line last,
        ap (run_lines related run_line) (sym (append_assoc items (y ∷ []) later))
            ∙ all_lines ((items ++ y ∷ []) ++ later)
            ∙ ap (λ ls. ls ++ lines_of_runs run_line last) (ap (lines_of_runs run_line) closed
            ∙ lines_append (closed_pieces (pieces related items) ++ (open_piece (pieces related items) ∷ [])) stay.0
            ∙ ap (λ ls. ls ++ lines_of_runs run_line stay.0) (lines_append (closed_pieces (pieces related items)) (open_piece (pieces related items) ∷ [])
            ∙ ap (λ ls. lines_of_runs run_line (closed_pieces (pieces related items)) ++ ls) (line_alone (open_piece (pieces related items)) o is)))
            ∙ four (lines_of_runs run_line (closed_pieces (pieces related items))) (open_line run_line o) (lines_of_runs run_line stay.0) (lines_of_runs run_line last),
      )
    where
      four : (a b c d : List ExplainLine) → ((a ++ b) ++ c) ++ d ≡ a ++ (b ++ (c ++ d))
      four a b c d = append_assoc (a ++ b) c d ∙ append_assoc a b (c ++ d)

  module _ {W : Type 0} (grew : W → List ExplainLine → W → Type 0) where
    -- ---- a sink that took them

    pub none_yet : ((a : W) → grew a [] a) → (out : W) → AreRun related run_line grew out [] None out
    unfolding pieces
    none_yet none out = record { last_is = tt; told = none out }

    pub on : (base : W) (items : List T) (o : Option (OpenRun T)) (y : T) (out : W) → takes related o y ≡ true → AreRun related run_line grew base items o out
        → AreRun related run_line grew base (items ++ y ∷ []) (Some (with_item o y)) out
    on base items o y out is h =
        let goes : goes_on related (open_piece (pieces related items)) y ≡ true = goes_is (open_piece (pieces related items)) o y h.last_is ∙ is in
        record {
          last_is = subst (λ p. IsOpen p (Some (with_item o y))) (sym ((runs T).on_open related items y goes)) (open_more (open_piece (pieces related items)) o y h.last_is);
          told = subst (λ ps. grew base (lines_of_runs run_line ps) out) (sym ((runs T).on_closed related items y goes)) h.told;
        }

    module _ (more : (a b c : W) (first second : List ExplainLine) → grew a first b → grew b second c → grew a (first ++ second) c) where
      pub off : (base : W) (items : List T) (o : Option (OpenRun T)) (y : T) (out now : W) → takes related o y ≡ false → grew out (open_line run_line o) now
          → AreRun related run_line grew base items o out → AreRun related run_line grew base (items ++ y ∷ []) (Some (with_item None y)) now
      off base items o y out now is told h =
          let goes : goes_on related (open_piece (pieces related items)) y ≡ false = goes_is (open_piece (pieces related items)) o y h.last_is ∙ is in
          let lines : lines_of_runs run_line (closed_pieces (pieces related items)) ++ open_line run_line o ≡ lines_of_runs run_line (closed_pieces (pieces related (items ++ y ∷ []))) =
          sym (ap (lines_of_runs run_line) ((runs T).off_closed related items y goes)
          ∙ lines_append (closed_pieces (pieces related items)) (open_piece (pieces related items) ∷ [])
          ∙ ap (λ ls. lines_of_runs run_line (closed_pieces (pieces related items)) ++ ls) (line_alone (open_piece (pieces related items)) o h.last_is)) in
          record {
            last_is = subst (λ p. IsOpen p (Some (with_item None y))) (sym ((runs T).off_open related items y goes)) (refl, refl, refl);
            told = subst (λ ls. grew base ls now) lines (more base out now (lines_of_runs run_line (closed_pieces (pieces related items))) (open_line run_line o) h.told told);
          }

      pub ends : (base : W) (items : List T) (o : Option (OpenRun T)) (out now : W) → grew out (open_line run_line o) now
          → AreRun related run_line grew base items o out → grew base (run_lines related run_line items) now
      ends base items o out now told h =
          subst (λ ls. grew base ls now)
          (sym (all_lines items ∙ ap (λ ls. lines_of_runs run_line (closed_pieces (pieces related items)) ++ ls) (line_is (open_piece (pieces related items)) o h.last_is)))
          (more base out now (lines_of_runs run_line (closed_pieces (pieces related items))) (open_line run_line o) h.told told)

      pub put_on : (o : Option (OpenRun T)) (y : T) (out : W) → takes related o y ≡ true → HasPut related run_line grew (y ∷ []) o out (Some (with_item o y)) out
      put_on o y out is = record { after_all = λ base items h. on base items o y out is h }

      pub put_off : (o : Option (OpenRun T)) (y : T) (out now : W) → takes related o y ≡ false → grew out (open_line run_line o) now
          → HasPut related run_line grew (y ∷ []) o out (Some (with_item None y)) now
      put_off o y out now is told = record { after_all = λ base items h. off base items o y out now is told h }

      module _ (stopped : W → ExplainLine → W → Type 0) where
        -- it stopped in one of some lines, which are between others that it took before and those that follow
        pub stops_between : (base out now : W) (front middle back : List ExplainLine) → grew base front out → StopsInLine grew stopped middle out now
            → StopsInLine grew stopped (front ++ (middle ++ back)) base now
        stops_between base out now front middle back told h = record {
          before = front ++ h.before;
          line = h.line;
          after = h.after ++ back;
          is =
              ap (λ ls. front ++ (ls ++ back)) h.is ∙ ap (λ ls. front ++ ls) (append_assoc h.before (h.line ∷ h.after) back)
              ∙ sym (append_assoc front h.before (h.line ∷ (h.after ++ back)));
          middle = h.middle;
          heard = more base out h.middle front h.before told h.heard;
          stop = h.stop;
        }

        pub stops_off : (base : W) (items : List T) (o : Option (OpenRun T)) (y : T) (later : List T) (out now : W) → takes related o y ≡ false
            → StopsInLine grew stopped (open_line run_line o) out now → AreRun related run_line grew base items o out
            → StopsInLine grew stopped (run_lines related run_line (items ++ y ∷ later)) base now
        stops_off base items o y later out now is stop h =
            let next = next_line items o y later h.last_is is in
            subst (λ ls. StopsInLine grew stopped ls base now) (sym next.1)
            (stops_between base out now (lines_of_runs run_line (closed_pieces (pieces related items))) (open_line run_line o) next.0 h.told stop)

        pub stops_off_put : (o : Option (OpenRun T)) (y : T) (out now : W) → takes related o y ≡ false → StopsInLine grew stopped (open_line run_line o) out now
            → StopsPutting related run_line grew stopped (y ∷ []) o out now
        stops_off_put o y out now is stop = record { in_all = λ base items later h. stops_off base items o y later out now is stop h }

        pub stops_last : (base : W) (items : List T) (o : Option (OpenRun T)) (out now : W)
            → StopsInLine grew stopped (open_line run_line o) out now → AreRun related run_line grew base items o out
            → StopsInLine grew stopped (run_lines related run_line items) base now
        stops_last base items o out now stop h =
            subst (λ ls. StopsInLine grew stopped ls base now)
            (sym (all_lines items ∙ ap (λ ls. lines_of_runs run_line (closed_pieces (pieces related items)) ++ ls)
            (line_is (open_piece (pieces related items)) o h.last_is ∙ sym (append-nil (open_line run_line o)))))
            (stops_between base out now (lines_of_runs run_line (closed_pieces (pieces related items))) (open_line run_line o) [] h.told stop)

module _ {T W : Type 0} (related : T → T → Bool) (run_line : T → ℕ → ExplainLine) (grew : W → List ExplainLine → W → Type 0) where
  -- ---- items that are put one list after the other

  pub put_none : (o : Option (OpenRun T)) (out : W) → HasPut related run_line grew [] o out o out
  put_none o out = record { after_all = λ base items h. subst (λ xs. AreRun related run_line grew base xs o out) (sym (append-nil items)) h }

  pub put_more : (xs ys : List T) (a b c : Option (OpenRun T)) (out mid now : W) → HasPut related run_line grew xs a out b mid → HasPut related run_line grew ys b mid c now
      → HasPut related run_line grew (xs ++ ys) a out c now
  put_more xs ys a b c out mid now h k = record {
    after_all = λ base items r. subst (λ zs. AreRun related run_line grew base zs c now) (append_assoc items xs ys) (k.after_all base (items ++ xs) (h.after_all base items r));
  }

  module _ (stopped : W → ExplainLine → W → Type 0) where
    pub stops_after : (xs ys : List T) (a b : Option (OpenRun T)) (out mid now : W) → HasPut related run_line grew xs a out b mid
        → StopsPutting related run_line grew stopped ys b mid now → StopsPutting related run_line grew stopped (xs ++ ys) a out now
    stops_after xs ys a b out mid now h k = record {
      in_all = λ base items later r.
          subst (λ zs. StopsInLine grew stopped (run_lines related run_line zs) base now)
          (append_assoc items xs (ys ++ later) ∙ ap (λ zs. items ++ zs) (sym (append_assoc xs ys later)))
          (k.in_all base (items ++ xs) later (h.after_all base items r));
    }

    pub stops_before : (xs ys : List T) (a : Option (OpenRun T)) (out now : W) → StopsPutting related run_line grew stopped xs a out now
        → StopsPutting related run_line grew stopped (xs ++ ys) a out now
    stops_before xs ys a out now k = record {
      in_all = λ base items later r.
          subst (λ zs. StopsInLine grew stopped (run_lines related run_line (items ++ zs)) base now) (sym (append_assoc xs ys later)) (k.in_all base items (ys ++ later) r);
    }

-- it stopped in the one line
pub stops_in_one : {W : Type 0} (grew : W → List ExplainLine → W → Type 0) (stopped : W → ExplainLine → W → Type 0) → ((a : W) → grew a [] a) → (line : ExplainLine) (out now : W)
    → stopped out line now → StopsInLine grew stopped (line ∷ []) out now
stops_in_one grew stopped none line out now stop = record { before = []; line = line; after = []; is = refl; middle = out; heard = none out; stop = stop }
