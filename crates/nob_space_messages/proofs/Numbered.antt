-- Lines with numbers of their own, and what is linked to their places.
use Rattle.std.proofs.Common.{◌≡◌, ℕ, ◌+◌, ◌<◌, ◌==◌, ◌&&◌, true, false, nat_lt, List, Option, Some, None, if◌then◌else◌, refl, sym, ap, ◌∙◌, arith, eqb-true, true≢false}
use Rattle.std.proofs.lemmas.Bool.Decides.{nat_tests}
use Rattle.std.proofs.lemmas.Cmp.{nat_eq_equiv}
use Rattle.std.proofs.lemmas.Option.{none-some, same_Some}
use Rattle.std.specs.Option.{option_map_or}
use Rattle.nob_ids.specs.declared.wire_rep.WireRep.{WireRep}
use Rattle.nob_ids.specs.Names.{is_same}
use Rattle.nob_rows.specs.Rows.{Puts, row_at}
use Rattle.nob_space_messages.specs.declared.owner_lines.Line.{Line}
use Rattle.nob_space_messages.specs.declared.owner_lines.Place.{Place}
use Rattle.nob_space_messages.specs.Lines.{AreNumbered, IsFree, count_of, has_place, is_link, is_place, line_or, longer, place_of, stamp_in, stamp_of}
use Rattle.nob_space_messages.proofs.Counting.{places_written, same_is}
use Rattle.nob_space_messages.proofs.Pushed.{some_more}

-- ---- places of a line
shorter_lacks : (line : Line) (place : Place) → has_place (longer line) place ≡ false → has_place line place ≡ false
shorter_lacks line place lacks =
    elim (line.number == place.line) as (λ b. (b && nat_lt place.place (line.count + 1)) ≡ false → (b && nat_lt place.place line.count) ≡ false) [
      | true ↦ λ h. grind (arith, nat_tests, h)
      | false ↦ λ h. refl
    ] lacks

not_next : (line : Line) (place : Place) → has_place (longer line) place ≡ false → is_place (place_of line line.count) place ≡ false
not_next line place lacks =
    elim (line.number == place.line) as (λ b. (b && nat_lt place.place (line.count + 1)) ≡ false → (b && line.count == place.place) ≡ false) [
      | true ↦ λ h. grind (arith, nat_tests, h)
      | false ↦ λ h. refl
    ] lacks

-- a number is another
unlike : (number other : ℕ) → (number ≡ other → ⊥) → (number == other) ≡ false
unlike number other differs = elim (number == other) as (λ b. (number == other) ≡ b → b ≡ false) [ true ↦ λ t. absurd (differs (eqb-true number other t)) | false ↦ λ u. refl ] refl

module _ (rows : List (WireRep × Line)) (links : List (Place × ℕ)) (next : ℕ) (are : AreNumbered rows links next) (rep : WireRep) where
  -- ---- one place more
  abbrev pub mine : Line
  mine = line_or next (row_at rows rep)

  pub mine_count : mine.count ≡ count_of rows rep
  mine_count = elim (row_at rows rep) as (λ o. (line_or next o).count ≡ option_map_or (λ line. line.count) o 0) [ None ↦ refl | Some line ↦ refl ]

  mine_low : mine.number < next + 1
  mine_low = elim (row_at rows rep) as (λ o. row_at rows rep ≡ o → (line_or next o).number < next + 1) [
    | None ↦ λ none. omega arith
    | Some line ↦ λ is. let low = are.below rep line is in omega (arith, low)
  ] refl

  apart : (other : WireRep) (line : Line) → row_at rows other ≡ Some line → is_same rep other ≡ false → mine.number ≡ line.number → ⊥
  apart other line there differs = elim (row_at rows rep) as (λ o. row_at rows rep ≡ o → (line_or next o).number ≡ line.number → ⊥) [
    | None ↦ λ none same. let low = are.below other line there in omega (arith, same, low)
    | Some held ↦ λ is same. true≢false (sym (are.own rep other held line is there same) ∙ differs)
  ] refl

  -- nothing stands past the places of the line
  unlinked : (place : ℕ) → stamp_of links (place_of mine place) ≡ stamp_in links (row_at rows rep) place
  unlinked place = elim (row_at rows rep) as (λ o. stamp_of links (place_of (line_or next o) place) ≡ stamp_in links o place) [
    | None ↦ are.held (record { line = next; place = place }) (λ other line there.
        let low = are.below other line there in
        ap (λ b. b && nat_lt place line.count) (unlike line.number next (λ same. omega (arith, same, low))))
    | Some line ↦ refl
  ]

  module _ (new : List (WireRep × Line)) (puts : Puts rows new rep (Some (longer mine))) (stamps : List (Place × ℕ)) (stamp : ℕ)
      (linked : (place : Place) → stamp_of stamps place ≡ (if is_place (place_of mine mine.count) place then Some stamp else stamp_of links place)) where
    here : (other : WireRep) → is_same rep other ≡ true → row_at new other ≡ Some (longer mine)
    here other same = puts other ∙ ap (λ b. if b then Some (longer mine) else row_at rows other) same

    others : (other : WireRep) → is_same rep other ≡ false → row_at new other ≡ row_at rows other
    others other differs = puts other ∙ ap (λ b. if b then Some (longer mine) else row_at rows other) differs

    held_here : (other : WireRep) (line : Line) → row_at new other ≡ Some line → is_same rep other ≡ true → mine.number ≡ line.number
    held_here other line got same = ap (λ (l : Line). l.number) (same_Some (longer mine) line (sym (here other same) ∙ got))

    low : (other : WireRep) (line : Line) → row_at new other ≡ Some line → line.number < next + 1
    low other line got = elim (is_same rep other) as (λ b. is_same rep other ≡ b → line.number < next + 1) [
      | true ↦ λ t. let same = held_here other line got t in omega (arith, same, mine_low)
      | false ↦ λ u. let below = are.below other line (sym (others other u) ∙ got) in omega (arith, below)
    ] refl

    own : (one other : WireRep) (line second : Line) → row_at new one ≡ Some line → row_at new other ≡ Some second → line.number ≡ second.number → is_same one other ≡ true
    own one other line second got found same = elim (is_same rep one) as (λ b. is_same rep one ≡ b → is_same one other ≡ true) [
      | true ↦ λ t. elim (is_same rep other) as (λ b. is_same rep other ≡ b → is_same one other ≡ true) [
        | true ↦ λ u. ap (λ (r : WireRep). is_same r other) (sym (same_is rep one t)) ∙ u
        | false ↦ λ u. absurd (apart other second (sym (others other u) ∙ found) u (held_here one line got t ∙ same))
      ] refl
      | false ↦ λ t. elim (is_same rep other) as (λ b. is_same rep other ≡ b → is_same one other ≡ true) [
        | true ↦ λ u. absurd (apart one line (sym (others one t) ∙ got) t (held_here other second found u ∙ sym same))
        | false ↦ λ u. are.own one other line second (sym (others one t) ∙ got) (sym (others other u) ∙ found) same
      ] refl
    ] refl

    held : (place : Place) → IsFree new place → stamp_of stamps place ≡ None
    held place free =
        let lacks = free rep (longer mine) (here rep (λ i. nat_eq_equiv.refl rep.owner i && nat_eq_equiv.refl rep.index i)) in
        linked place ∙ ap (λ b. if b then Some stamp else stamp_of links place) (not_next mine place lacks)
        ∙ are.held place (λ other line there. elim (is_same rep other) as (λ b. is_same rep other ≡ b → has_place line place ≡ false) [
          | true ↦ λ t.
              let is : mine ≡ line = ap (line_or next) (ap (row_at rows) (same_is rep other t) ∙ there) in
              ap (λ (l : Line). has_place l place) (sym is) ∙ shorter_lacks mine place lacks
          | false ↦ λ u. free other line (others other u ∙ there)
        ] refl)

    pub lengthened : AreNumbered new stamps (next + 1)
    lengthened = record {
      places = places_written rows new rep (Some (longer mine)) puts (sym (some_more (mine.count + 1) (omega arith))) are.places;
      below = low;
      own = own;
      held = held;
    }

    pub stamped : (other : WireRep) (place : ℕ) → stamp_in stamps (row_at new other) place ≡ (if is_link rep (count_of rows rep) other place then Some stamp else stamp_in links (row_at rows other) place)
    stamped other place = elim (is_same rep other) as (λ b. is_same rep other ≡ b → stamp_in stamps (row_at new other) place ≡ (if b && count_of rows rep == place then Some stamp else stamp_in links (row_at rows other) place)) [
      | true ↦ λ t.
          let before : stamp_of links (place_of mine place) ≡ stamp_in links (row_at rows other) place = unlinked place ∙ ap (λ (r : WireRep). stamp_in links (row_at rows r) place) (same_is rep other t) in
          ap (λ (o : Option Line). stamp_in stamps o place) (here other t) ∙ linked (place_of mine place)
          ∙ ap (λ b. if b && mine.count == place then Some stamp else stamp_of links (place_of mine place)) (nat_eq_equiv.refl mine.number)
          ∙ (λ i. if mine_count i == place then Some stamp else before i)
      | false ↦ λ u.
          ap (λ (o : Option Line). stamp_in stamps o place) (others other u)
          ∙ elim (row_at rows other) as (λ o. row_at rows other ≡ o → stamp_in stamps o place ≡ stamp_in links o place) [
            | None ↦ λ none. refl
            | Some line ↦ λ there. linked (place_of line place) ∙ ap (λ b. if b && mine.count == place then Some stamp else stamp_of links (place_of line place)) (unlike mine.number line.number (apart other line there u))
          ] refl
    ] refl

  -- ---- one line less
  module _ (line : Line) (there : row_at rows rep ≡ Some line) (new : List (WireRep × Line)) (puts : Puts rows new rep None) (stamps : List (Place × ℕ))
      (unlinks : (place : Place) → stamp_of stamps place ≡ (if has_place line place then None else stamp_of links place)) where
    still : (other : WireRep) → is_same rep other ≡ false → row_at new other ≡ row_at rows other
    still other differs = puts other ∙ ap (λ b. if b then None else row_at rows other) differs

    was : (other : WireRep) (held : Line) → row_at new other ≡ Some held → row_at rows other ≡ Some held
    was other held got = elim (is_same rep other) as (λ b. is_same rep other ≡ b → row_at rows other ≡ Some held) [
      | true ↦ λ t. absurd (none-some held (sym (puts other ∙ ap (λ b. if b then None else row_at rows other) t) ∙ got))
      | false ↦ λ u. sym (still other u) ∙ got
    ] refl

    pub cleared : AreNumbered new stamps next
    cleared = record {
      places = places_written rows new rep None puts refl are.places;
      below = λ other held got. are.below other held (was other held got);
      own = λ one other held second got found. are.own one other held second (was one held got) (was other second found);
      held = λ place free. unlinks place ∙ elim (has_place line place) as (λ b. has_place line place ≡ b → (if b then None else stamp_of links place) ≡ None) [
        | true ↦ λ t. refl
        | false ↦ λ u. are.held place (λ other held got. elim (is_same rep other) as (λ b. is_same rep other ≡ b → has_place held place ≡ false) [
          | true ↦ λ same.
              let is : line ≡ held = same_Some line held (sym there ∙ ap (row_at rows) (same_is rep other same) ∙ got) in
              ap (λ (l : Line). has_place l place) (sym is) ∙ u
          | false ↦ λ differs. free other held (still other differs ∙ got)
        ] refl)
      ] refl;
    }
