-- A drawing, as the sink and the screen answer it, shows the frame on the terminal of a session.
use Rattle.std.proofs.Common.{◌≡◌, ◌≢◌, ◌⊎◌, ℕ, ◌+◌, ◌≤◌, Bool, true, false, List, [], ◌++◌, length, take, drop, refl, sym, ◌∙◌, ap, subst, inl, inr, Option, Some, None, Result, Ok, Err, append_assoc, length-append, append-nil, arith}
use Rattle.std.specs.Prelude.{not, ◌&&◌}
use Rattle.std.proofs.lemmas.Bool.{false≢true}
use Rattle.std.proofs.Math.Seq.{drop-append_seam}
use Rattle.tree_trait.specs.Answers.{HasRisen, IfKnown}
use Rattle.tree_trait.specs.declared.devices.SinkError.{SinkError}
use Rattle.key_screen.specs.Grids.{CellGrid}
use Rattle.screen_draw.specs.Drawings.{Display, HasDrawn, HasSizeOf, IsDrawing, Shows}
use Rattle.tree_trait.specs.declared.devices.SinkError.TheVariants.{Fault}
use Rattle.mc_desk.specs.Outputs.{Blames, CountsAll, IsTerminal, Output, ShowsFrame, output_of, prepared}
use Rattle.mc_desk.specs.Shown.{CutsFrame, DrawsBehind, DrawsFrame, PutsFrame, ShowsOverAny}
use Rattle.mc_desk.specs.DeskDevices.{HasGiven, Put, put_since}

same_some : (a b : List ℕ) (o : Option (List ℕ)) → o ≡ Some a → o ≡ Some b → a ≡ b
same_some a b o left right = let both : Some a ≡ Some b = sym left ∙ right in cc

-- what was put is read from what the sink was given
pub since_is : (before bytes : List ℕ) (now : Option (List ℕ)) → now ≡ Some (before ++ bytes) → put_since (Some before) now ≡ Some bytes
since_is before bytes now is = ap (put_since (Some before)) is ∙ ap Some (drop-append_seam before bytes)

pub given_first : (given now : Option (List ℕ)) → now ≡ given → HasGiven given (put_since given now) now
given_first None now same = record { told = λ before known. absurd cc; untold = λ none. (refl, same) }
given_first (Some bytes) now same = record {
  told = λ before known. let is : bytes ≡ before = cc in ([], since_is bytes [] now (same ∙ ap Some (sym (append-nil bytes))), same ∙ (known ∙ ap Some (sym (append-nil before))));
  untold = λ none. absurd cc;
}

pub first_put : (given now : Option (List ℕ)) → now ≡ given → IfKnown (put_since given now) (λ bytes. bytes ≡ [])
first_put None now same bytes known = absurd cc
first_put (Some before) now same bytes known =
    same_some bytes [] (put_since (Some before) now) known (since_is before [] now (same ∙ ap Some (sym (append-nil before))))

module _ (given now now_after : Option (List ℕ)) (bytes : List ℕ) (had : HasGiven given (put_since given now) now) (more : IfKnown now (λ g. now_after ≡ Some (g ++ bytes))) (unknown : now ≡ None → now_after ≡ None) where
  -- bytes behind those that were put
  put_more : IfKnown (put_since given now) (λ earlier. put_since given now_after ≡ Some (earlier ++ bytes))
  put_more = go given refl
    where
      go : (g : Option (List ℕ)) → given ≡ g → IfKnown (put_since given now) (λ earlier. put_since given now_after ≡ Some (earlier ++ bytes))
      go None is earlier known = absurd (let none = (had.untold is).0 in cc)
      go (Some before) is earlier known =
          let t = had.told before is in
          let same : earlier ≡ t.0 = same_some earlier t.0 (put_since given now) known t.1 in
          ap (λ g. put_since g now_after) is
          ∙ (since_is before (t.0 ++ bytes) now_after (more (before ++ t.0) t.2 ∙ ap Some (append_assoc before t.0 bytes)) ∙ ap (λ e. Some (e ++ bytes)) (sym same))

  given_more : HasGiven given (put_since given now_after) now_after
  given_more = record {
    told = λ before known.
        let t = had.told before known in
        let after : now_after ≡ Some (before ++ (t.0 ++ bytes)) = more (before ++ t.0) t.2 ∙ ap Some (append_assoc before t.0 bytes) in
        (t.0 ++ bytes, ap (λ g. put_since g now_after) known ∙ since_is before (t.0 ++ bytes) now_after after, after);
    untold = λ none. let after = unknown (had.untold none).1 in (ap (λ g. put_since g now_after) none, after);
  }

  still_untold : put_since given now ≡ None → put_since given now_after ≡ None
  still_untold none = go given refl
    where
      go : (g : Option (List ℕ)) → given ≡ g → put_since given now_after ≡ None
      go None is = ap (λ g. put_since g now_after) is
      go (Some before) is = absurd (let t = had.told before is in let some = t.1 in cc)

untold_since : (given : Option (List ℕ)) → put_since given None ≡ None
untold_since None = refl
untold_since (Some before) = refl

drawn_before : (has_drawn : Bool) → not has_drawn ≡ false → has_drawn ≡ true
drawn_before true h = refl
drawn_before false h = absurd cc

none_drawn : (has_drawn : Bool) → not has_drawn ≡ true → has_drawn ≡ false
none_drawn true h = absurd cc
none_drawn false h = refl

-- what counts as drawn before a drawing was drawn
drawn_still : (anew has_drawn : Bool) → (not anew && has_drawn) ≡ true → has_drawn ≡ true
drawn_still true has_drawn h = absurd (false≢true h)
drawn_still false has_drawn h = h

abbrev whole_put : Option (List ℕ) → Put
whole_put bytes = record { bytes = bytes; is_cut = false }

abbrev cut_put : Option (List ℕ) → Put
cut_put bytes = record { bytes = bytes; is_cut = true }

module _ (given now now_after : Option (List ℕ)) (display : Display) (frame : CellGrid) (had : HasGiven given (put_since given now) now) (begun : IfKnown (put_since given now) (λ bytes. (bytes ≡ []) ⊎ ShowsOverAny bytes display.grid))
    (shows : display.has_drawn ≡ true → IfKnown (put_since given now) (λ bytes. ShowsOverAny bytes display.grid)) (size : HasSizeOf display.grid frame) (unknown : now ≡ None → now_after ≡ None) where
  behind : (earlier drawn : List ℕ) → put_since given now ≡ Some earlier → IsDrawing display frame drawn → DrawsBehind (not display.has_drawn) earlier frame drawn
  behind earlier drawn known d = record {
    shows = λ before was shown sized. go before was shown sized display.has_drawn refl;
    all = λ anew. let none = none_drawn display.has_drawn anew in record { clears = d.cleared none; shows = λ before was shown sized. d.shows before was shown sized (λ has. absurd (false≢true (sym none ∙ has))) };
    sparse = λ later. let has = drawn_before display.has_drawn later in (display.grid, size, shows has earlier known, d.sparse has);
  }
    where
      over : (before : List ℕ) (was : CellGrid) → Shows before was → HasSizeOf was frame → ShowsOverAny earlier display.grid → Shows (before ++ earlier) display.grid
      over before was shown sized showing = showing before was shown (record { lines = sym size.lines ∙ sized.lines; columns = sym size.columns ∙ sized.columns })

      -- a drawing of all on whatever a terminal showed, and each other one on the frame before it
      go : (before : List ℕ) (was : CellGrid) → Shows before was → HasSizeOf was frame → (drawn_so : Bool) → display.has_drawn ≡ drawn_so → Shows (before ++ (earlier ++ drawn)) frame
      go before was shown sized true is =
          subst (λ b. Shows b frame) (append_assoc before earlier drawn)
          (d.shows (before ++ earlier) display.grid (over before was shown sized (shows is earlier known)) size (λ has. refl))
      go before was shown sized false is =
          elim (begun earlier known) [
            | inl empty ↦ subst (λ e. Shows (before ++ (e ++ drawn)) frame) (sym empty) (d.shows before was shown sized (λ has. absurd (false≢true (sym is ∙ has))))
            | inr showing ↦
                subst (λ b. Shows b frame) (append_assoc before earlier drawn)
                (d.shows (before ++ earlier) display.grid (over before was shown sized showing) size (λ has. absurd (false≢true (sym is ∙ has))))
          ]

  untold : now ≡ None → put_since given now ≡ None
  untold none = ap (put_since given) none ∙ untold_since given

  none_told : {A : Type 0} → now ≡ None → (earlier : List ℕ) → put_since given now ≡ Some earlier → A
  none_told none earlier known = absurd (let nothing = untold none in cc)

  -- a sink that tells nothing still does
  untold_given : now ≡ None → HasGiven given (put_since given now_after) now_after
  untold_given none = record {
    told = λ before known. absurd (let t = had.told before known in let some = t.2 in cc);
    untold = λ nothing. (ap (λ g. put_since g now_after) nothing, unknown none);
  }

  still : put_since given now ≡ None → put_since given now_after ≡ None
  still none = go given refl
    where
      go : (g : Option (List ℕ)) → given ≡ g → put_since given now_after ≡ None
      go None is = ap (λ g. put_since g now_after) is
      go (Some before) is = absurd (let t = had.told before is in let some = t.1 in cc)

  -- a drawing that ended
  pub drawing_ended : (shown count : ℕ) → IfKnown (put_since given now) (λ bytes. shown ≡ length bytes) → IfKnown now (λ g. HasDrawn display frame g (let r : Result ℕ SinkError = Ok count in r) now_after)
      → HasGiven given (put_since given now_after) now_after × DrawsFrame (not display.has_drawn) frame (shown + count) (whole_put (put_since given now)) (whole_put (put_since given now_after))
  drawing_ended shown count counted drawn = go now refl
    where
      go : (n : Option (List ℕ)) → now ≡ n
          → HasGiven given (put_since given now_after) now_after × DrawsFrame (not display.has_drawn) frame (shown + count) (whole_put (put_since given now)) (whole_put (put_since given now_after))
      go None is = (untold_given is, record { uncut = refl; drawn = inl (record { whole = refl; bytes = λ earlier known. none_told is earlier known }); untold = still })
      go (Some g) is =
          let d = drawn g is in
          let more : IfKnown now (λ b. now_after ≡ Some (b ++ d.0)) = λ b known. d.1 ∙ ap (λ x. Some (x ++ d.0)) (same_some g b now is known) in (
            given_more given now now_after d.0 had more unknown,
            record {
              uncut = refl;
              drawn = inl (record {
                whole = refl;
                bytes = λ earlier known. (
                  d.0,
                  put_more given now now_after d.0 had more unknown earlier known,
                  (let l = length-append earlier d.0 in let c = d.2 in let had_shown = counted earlier known in omega (arith, l, c, had_shown)),
                  behind earlier d.0 known d.3,
                );
              });
              untold = still;
            },
          )

  -- a drawing that was cut short
  pub drawing_cut : (shown : ℕ) (error : SinkError) → IfKnown (put_since given now) (λ bytes. shown ≡ length bytes) → IfKnown now (λ g. HasDrawn display frame g (let r : Result ℕ SinkError = Err error in r) now_after)
      → HasGiven given (put_since given now_after) now_after × DrawsFrame (not display.has_drawn) frame shown (whole_put (put_since given now)) (cut_put (put_since given now_after))
  drawing_cut shown error counted drawn = go now refl
    where
      go : (n : Option (List ℕ)) → now ≡ n
          → HasGiven given (put_since given now_after) now_after × DrawsFrame (not display.has_drawn) frame shown (whole_put (put_since given now)) (cut_put (put_since given now_after))
      go None is = (untold_given is, record { uncut = refl; drawn = inr (record { cut = refl; bytes = λ earlier known. none_told is earlier known }); untold = still })
      go (Some g) is =
          let d = drawn g is in
          let more : IfKnown now (λ b. now_after ≡ Some (b ++ take d.1 d.0)) = λ b known. d.2 ∙ ap (λ x. Some (x ++ take d.1 d.0)) (same_some g b now is known) in (
            given_more given now now_after (take d.1 d.0) had more unknown,
            record {
              uncut = refl;
              drawn = inr (record {
                cut = refl;
                bytes = λ earlier known. (counted earlier known, inr (d.0, d.1, put_more given now now_after (take d.1 d.0) had more unknown earlier known, behind earlier d.0 known d.3));
              });
              untold = still;
            },
          )

-- a drawing for which there was no memory puts nothing
pub nothing_drawn : (is_anew : Bool) (frame : CellGrid) (shown : ℕ) (bytes : Option (List ℕ)) → IfKnown bytes (λ b. shown ≡ length b) → DrawsFrame is_anew frame shown (whole_put bytes) (cut_put bytes)
nothing_drawn is_anew frame shown bytes counted =
    record { uncut = refl; drawn = inr (record { cut = refl; bytes = λ earlier known. (counted earlier known, inl known) }); untold = λ none. none }

-- what is counted and shown after a drawing that ended
pub ended_counts : (is_anew : Bool) (frame : CellGrid) (shown : ℕ) (before after : Option (List ℕ)) → DrawsFrame is_anew frame shown (whole_put before) (whole_put after) → IfKnown after (λ bytes. (shown ≡ length bytes) × ShowsOverAny bytes frame)
ended_counts is_anew frame shown before after d bytes known = go before refl d.drawn
  where
    go : (b : Option (List ℕ)) → before ≡ b → PutsFrame is_anew frame shown (whole_put before) (whole_put after) ⊎ CutsFrame is_anew frame shown (whole_put before) (whole_put after) → (shown ≡ length bytes) × ShowsOverAny bytes frame
    go None is drawn = absurd (let none = d.untold is in cc)
    go (Some earlier) is (inl puts) =
        let p = puts.bytes earlier is in
        let same : earlier ++ p.0 ≡ bytes = same_some (earlier ++ p.0) bytes after p.1 known in
        (p.2 ∙ ap length same, subst (λ b. ShowsOverAny b frame) same p.3.shows)
    go (Some earlier) is (inr cuts) = absurd (let cut = cuts.cut in cc)

-- the sink's count of faults doesn't fall, and rises where it failed
pub blames_later : (failed : Bool) (opening now after : ℕ) → Blames failed opening now → now ≤ after → Blames failed opening after
blames_later true opening now after h le = omega (arith, h, le)
blames_later false opening now after h le = omega (arith, h, le)

pub blames_risen : (failed : Bool) (opening now after : ℕ) → Blames failed opening now → HasRisen now after → HasRisen opening after
blames_risen true opening now after h up = omega (arith, h, up)
blames_risen false opening now after h up = omega (arith, h, up)

-- a drawing for which there was no memory
pub cut_nothing : (anew : Bool) (frame : CellGrid) (e : SinkError) (before after : Output) → before.put.is_cut ≡ false → CountsAll before → e ≢ Fault → after ≡ (let o : Output = record before { put = record before.put { is_cut = true } } in o)
    → ShowsFrame anew frame (let r : Result (Unit {0}) SinkError = Err e in r) before after
cut_nothing anew frame e before after uncut counted other is =
    subst (λ o. ShowsFrame anew frame (let r : Result (Unit {0}) SinkError = Err e in r) before o) (sym is) (record {
      drawn = record { uncut = uncut; drawn = inr (record { cut = refl; bytes = λ earlier known. (counted earlier known, inl known) }); untold = λ none. none };
      whole = tt;
      cut = (refl, refl);
      sized = record { lines = refl; columns = refl };
      failed = λ same. absurd (other cc);
    })

-- A terminal, by what its sink was given, and how often it failed, and a drawing of all or of what differs.
module _ (given now now_after : Option (List ℕ)) (faults faults_now : ℕ) (anew : Bool) (display display_after : Display) (frame : CellGrid) (shown : ℕ) (failed is_cut : Bool) (uncut : is_cut ≡ false)
    (had : IsTerminal given now faults faults_now (output_of given now display shown failed is_cut)) (size : HasSizeOf display.grid frame) (unknown : now ≡ None → now_after ≡ None) where
  abbrev from : Display
  from = prepared anew display

  counted : IfKnown (put_since given now) (λ bytes. shown ≡ length bytes)
  counted = had.counted uncut

  -- nothing was put, or the frame drawn last is shown
  begun : IfKnown (put_since given now) (λ bytes. (bytes ≡ []) ⊎ ShowsOverAny bytes display.grid)
  begun bytes known = go display.has_drawn refl
    where
      go : (has_drawn : Bool) → display.has_drawn ≡ has_drawn → (bytes ≡ []) ⊎ ShowsOverAny bytes display.grid
      go true is = inr (had.shows uncut is bytes known)
      go false is = inl (had.first uncut is bytes known)

  shows_drawn : from.has_drawn ≡ true → IfKnown (put_since given now) (λ bytes. ShowsOverAny bytes display.grid)
  shows_drawn has = had.shows uncut (drawn_still anew display.has_drawn has)

  as_whole : (shown_now : ℕ) (after : Put) → DrawsFrame (not from.has_drawn) frame shown_now (whole_put (put_since given now)) after
      → DrawsFrame (not from.has_drawn) frame shown_now (let p : Put = record { bytes = put_since given now; is_cut = is_cut } in p) after
  as_whole shown_now after d = subst (λ b. DrawsFrame (not from.has_drawn) frame shown_now (let p : Put = record { bytes = put_since given now; is_cut = b } in p) after) (sym uncut) d

  -- a drawing that ended
  module _ (count shown_after : ℕ) (adds : shown_after ≡ shown + count) (drawn : IfKnown now (λ g. HasDrawn from frame g (let r : Result ℕ SinkError = Ok count in r) now_after))
      (done : display_after ≡ (let d : Display = record { grid = frame; has_drawn = true } in d)) where
    ends : HasGiven given (put_since given now_after) now_after × DrawsFrame (not from.has_drawn) frame shown_after (whole_put (put_since given now)) (whole_put (put_since given now_after))
    ends =
        subst (λ n. HasGiven given (put_since given now_after) now_after × DrawsFrame (not from.has_drawn) frame n (whole_put (put_since given now)) (whole_put (put_since given now_after))) (sym adds)
        (drawing_ended given now now_after from frame had.puts begun shows_drawn size unknown shown count counted drawn)

    pub ended_terminal : (faults_after : ℕ) → faults_now ≤ faults_after → IsTerminal given now_after faults faults_after (output_of given now_after display_after shown_after failed is_cut)
    ended_terminal faults_after later = record {
      blames = blames_later failed faults faults_now faults_after had.blames later;
      puts = ends.0;
      counted = λ whole bytes known. (ended_counts (not from.has_drawn) frame shown_after (put_since given now) (put_since given now_after) ends.1 bytes known).0;
      first = λ whole none. absurd (false≢true (sym none ∙ ap (λ (d : Display). d.has_drawn) done));
      shows = λ whole has bytes known.
          subst (λ (d : Display). ShowsOverAny bytes d.grid) (sym done) (ended_counts (not from.has_drawn) frame shown_after (put_since given now) (put_since given now_after) ends.1 bytes known).1;
    }

    pub ended_shows : ShowsFrame anew frame (let r : Result (Unit {0}) SinkError = Ok tt in r) (output_of given now display shown failed is_cut) (output_of given now_after display_after shown_after failed is_cut)
    ended_shows = record {
      drawn = as_whole shown_after (let p : Put = record { bytes = put_since given now_after; is_cut = is_cut } in p)
          (subst (λ b. DrawsFrame (not from.has_drawn) frame shown_after (whole_put (put_since given now)) (let p : Put = record { bytes = put_since given now_after; is_cut = b } in p)) (sym uncut) ends.1);
      whole = (uncut, done);
      cut = tt;
      sized = subst (λ (d : Display). HasSizeOf display.grid d.grid) (sym done) size;
      failed = λ is. absurd cc;
    }

  -- a drawing that was refused
  pub cut_shows : (e : SinkError) (failed_after : Bool) → IfKnown now (λ g. HasDrawn from frame g (let r : Result ℕ SinkError = Err e in r) now_after) → display_after ≡ from → (e ≡ Fault → failed_after ≡ true)
      → ShowsFrame anew frame (let r : Result (Unit {0}) SinkError = Err e in r) (output_of given now display shown failed is_cut) (output_of given now_after display_after shown failed_after true)
  cut_shows e failed_after drawn same fault = record {
    drawn = as_whole shown (cut_put (put_since given now_after)) (drawing_cut given now now_after from frame had.puts begun shows_drawn size unknown shown e counted drawn).1;
    whole = tt;
    cut = (refl, ap (λ (d : Display). d.grid) same);
    sized = subst (λ (d : Display). HasSizeOf display.grid d.grid) (sym same) (record { lines = refl; columns = refl });
    failed = λ is. fault cc;
  }

  pub cut_terminal : (e : SinkError) (failed_after : Bool) (faults_after : ℕ) → IfKnown now (λ g. HasDrawn from frame g (let r : Result ℕ SinkError = Err e in r) now_after) → Blames failed_after faults faults_after
      → IsTerminal given now_after faults faults_after (output_of given now_after display_after shown failed_after true)
  cut_terminal e failed_after faults_after drawn blames = record {
    blames = blames;
    puts = (drawing_cut given now now_after from frame had.puts begun shows_drawn size unknown shown e counted drawn).0;
    counted = λ whole. absurd cc;
    first = λ whole. absurd cc;
    shows = λ whole. absurd cc;
  }

-- at the opening nothing was put
pub first_terminal : (given now : Option (List ℕ)) (faults faults_now : ℕ) (display : Display) → now ≡ given → faults ≤ faults_now → display.has_drawn ≡ false → IsTerminal given now faults faults_now (output_of given now display 0 false false)
first_terminal given now faults faults_now display same few fresh = record {
  blames = few;
  puts = given_first given now same;
  counted = λ whole bytes known. ap length (sym (first_put given now same bytes known));
  first = λ whole none. first_put given now same;
  shows = λ whole has. absurd (false≢true (sym fresh ∙ has));
}
