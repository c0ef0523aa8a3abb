-- What stands at a place of a mesh's route.
use Rattle.std.proofs.Common.{◌≡◌, ℕ, ◌+◌, ◌-◌, ◌*◌, ◌/◌, ◌%◌, ◌<◌, ◌≤◌, List, ◌++◌, map, length, Some, None, sym, ap, ◌∙◌, ⊎_elim, arith, length-append}
use Rattle.std.proofs.lemmas.Bool.{lt-ltb, cases_lt, and_from, cond-true}
use Rattle.std.specs.List.{range_with_len, slice_get}
use Rattle.std.proofs.lemmas.List.FromFn.{length-map-range_with_len, get_or-map-range_with_len}
use Rattle.std.proofs.lemmas.List.{get_or_append_left, get_or-append_right}
use Rattle.std.proofs.lemmas.Option.{slice_get-get_or, slice_get_past}
use Rattle.fabric.specs.Grid.{east, west, north, south, across, along, grid_path, grid_route}
use Rattle.fabric.specs.MeshLaws.{across_length, path_length}

-- what stands at a place of two lists one after the other, and of counted links
nth_append_left : (xs ys : List ℕ) (i : ℕ) → i < length xs → slice_get (xs ++ ys) i ≡ slice_get xs i
nth_append_left xs ys i h =
    let all : length (xs ++ ys) ≡ length xs + length ys = length-append xs ys in
    slice_get-get_or (xs ++ ys) i 0 (omega arith) ∙ ap Some (get_or_append_left xs ys 0 i h) ∙ sym (slice_get-get_or xs i 0 h)

nth_append_right : (xs ys : List ℕ) (n i : ℕ) → length xs ≡ n → n ≤ i → slice_get (xs ++ ys) i ≡ slice_get ys (i - n)
nth_append_right xs ys n i e h =
    let all : length (xs ++ ys) ≡ length xs + length ys = length-append xs ys in
    ⊎_elim
    (λ lt. slice_get-get_or (xs ++ ys) i 0 (omega arith) ∙ ap Some (get_or-append_right xs ys n i 0 e h) ∙ sym (slice_get-get_or ys (i - n) 0 lt))
    (λ le. slice_get_past (xs ++ ys) i (omega arith) ∙ sym (slice_get_past ys (i - n) le))
    (cases_lt (i - n) (length ys))

nth_counted : (f : ℕ → ℕ) (k i : ℕ) → i < k → slice_get (map f (range_with_len 0 k)) i ≡ Some (f i)
nth_counted f k i h =
    let long : length (map f (range_with_len 0 k)) ≡ k = length-map-range_with_len f 0 k in
    slice_get-get_or (map f (range_with_len 0 k)) i 0 (omega arith) ∙ ap Some (get_or-map-range_with_len f 0 k i i 0 h (omega arith))

-- the link at place i of a path, while it goes along x
module _ (w x y x' y' i : ℕ) where
  pub at_east : i < x' - x → slice_get (grid_path w x y x' y') i ≡ Some (east w x y i)
  at_east h =
      nth_append_left (across w x y x') (along w x' y y') i (omega (arith, across_length w x y x'))
      ∙ nth_append_left _ _ i (omega (arith, length-map-range_with_len (east w x y) 0 (x' - x))) ∙ nth_counted (east w x y) (x' - x) i h

  pub at_west : i < x - x' → slice_get (grid_path w x y x' y') i ≡ Some (west w x y i)
  at_west h =
      let e : i - (x' - x) ≡ i = omega arith in
      nth_append_left (across w x y x') (along w x' y y') i (omega (arith, across_length w x y x'))
      ∙ nth_append_right (map (east w x y) (range_with_len 0 (x' - x))) (map (west w x y) (range_with_len 0 (x - x'))) (x' - x) i (length-map-range_with_len (east w x y) 0 (x' - x)) (omega arith)
      ∙ ap (slice_get (map (west w x y) (range_with_len 0 (x - x')))) e ∙ nth_counted (west w x y) (x - x') i h

-- the link at place i of a path, j places after it has turned along y
module _ (w x y x' y' i j : ℕ) (past : ((x' - x) + (x - x')) + j ≡ i) where
  in_along : slice_get (grid_path w x y x' y') i ≡ slice_get (along w x' y y') j
  in_along =
      let e : i - ((x' - x) + (x - x')) ≡ j = omega arith in
      nth_append_right (across w x y x') (along w x' y y') ((x' - x) + (x - x')) i (across_length w x y x') (omega arith) ∙ ap (slice_get (along w x' y y')) e

  pub at_north : j < y' - y → slice_get (grid_path w x y x' y') i ≡ Some (north w x' y j)
  at_north h =
      in_along ∙ nth_append_left _ _ j (omega (arith, length-map-range_with_len (north w x' y) 0 (y' - y))) ∙ nth_counted (north w x' y) (y' - y) j h

  pub at_south : j < y - y' → slice_get (grid_path w x y x' y') i ≡ Some (south w x' y j)
  at_south h =
      let e : j - (y' - y) ≡ j = omega arith in
      in_along
      ∙ nth_append_right (map (north w x' y) (range_with_len 0 (y' - y))) (map (south w x' y) (range_with_len 0 (y - y'))) (y' - y) j (length-map-range_with_len (north w x' y) 0 (y' - y)) (omega arith)
      ∙ ap (slice_get (map (south w x' y) (range_with_len 0 (y - y')))) e ∙ nth_counted (south w x' y) (y - y') j h

-- past its end nothing stands
pub at_end : (w x y x' y' i : ℕ) → ((x' - x) + (x - x')) + ((y' - y) + (y - y')) ≤ i → slice_get (grid_path w x y x' y') i ≡ None
at_end w x y x' y' i h = slice_get_past (grid_path w x y x' y') i (omega (arith, path_length w x y x' y'))

-- the link at each place of a path
pub ruleset at_place = (at_east, at_west, at_north, at_south, at_end)

-- two nodes of a mesh have the route along x first
pub route_inside : (w h a b : ℕ) → a < w * h → b < w * h → grid_route w h a b ≡ Some (grid_path w (a % w) (a / w) (b % w) (b / w))
route_inside w h a b ina inb = cond-true _ _ _ (and_from _ _ (lt-ltb _ _ ina) (lt-ltb _ _ inb))
