-- The routes of a mesh go along x first, and are as long as their nodes are apart.
use Rattle.std.proofs.Common.{◌≡◌, ℕ, ◌+◌, ◌-◌, ◌/◌, ◌%◌, ◌<◌, ◌≤◌, true, ◌++◌, length, get_or, sym, refl, ap, subst, ⊎_elim, arith, length-append}
use Rattle.std.proofs.lemmas.Bool.{cases_lt}
use Rattle.std.proofs.lemmas.Bool.Decides.{nat_tests}
use Rattle.std.proofs.lemmas.List.{get_or_append_left, get_or-append_right}
use Rattle.std.proofs.lemmas.Nat.{div_below, mod_below}
use Rattle.fabric.specs.Grid.{across, along, grid_path, sizes_fit}
use Rattle.fabric.specs.MeshLaws.{across_turns, along_turns, path_length}
use Rattle.fabric.specs.MeshRoutes.{AlongX, MeshRoutes}
use Rattle.fabric.proofs.Places.{route_inside}

-- what the test of a mesh's size says
pub record Sizes (w h d : ℕ) : Type 0 where
  pub some_column : 1 ≤ w
  pub few_columns : w ≤ 8
  pub few_rows : h ≤ 8

pub sizes : (w h d : ℕ) → sizes_fit w h d ≡ true → Sizes w h d
sizes w h d fit =
    record {
      some_column = grind (arith, nat_tests);
      few_columns = grind (arith, nat_tests);
      few_rows = grind (arith, nat_tests);
    }

-- A link along x stands in the part along the row, so every link before it does too.
path_x_first : (w x y x' y' i j : ℕ) → i < j → j < length (grid_path w x y x' y') → AlongX (get_or (grid_path w x y x' y') j 0) → AlongX (get_or (grid_path w x y x' y') i 0)
path_x_first w x y x' y' i j before within turned =
    let xs = across w x y x' in
    let ys = along w x' y y' in
    let all : length (xs ++ ys) ≡ length xs + length ys = length-append xs ys in
    ⊎_elim
    (λ jx.
    let ix : i < length xs = omega arith in
    subst AlongX (sym (get_or_append_left xs ys 0 i ix)) (across_turns w x y x' i ix))
    (λ jy.
    let here = along_turns w x' y y' (j - length xs) (omega arith) in
    let same = get_or-append_right xs ys (length xs) j 0 refl jy in
    absurd (omega (arith, here, turned, ap (λ l. l % 4) same)))
    (cases_lt j (length xs))

-- The path is the route; its length is that of its two walks, each at most 7.
pub mesh_routes : MeshRoutes
mesh_routes w h d fit a b ina inb =
    let s = sizes w h d fit in
    let wide : 1 ≤ w = s.some_column in
    let long = path_length w (a % w) (a / w) (b % w) (b / w) in
    let rowa : a / w < h = div_below a w h wide (omega arith) in
    let rowb : b / w < h = div_below b w h wide (omega arith) in
    let r = grid_path w (a % w) (a / w) (b % w) (b / w) in (
      r,
      route_inside w h a b ina inb,
      record {
        long = omega (arith, long);
        x_first = path_x_first w (a % w) (a / w) (b % w) (b / w);
        short = omega (arith, long, s.few_columns, s.few_rows, mod_below a w wide, mod_below b w wide);
      },
    )
