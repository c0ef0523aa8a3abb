-- Working. The proof that a mesh keeps the laws of a fabric, `mesh_lawful`: the mesh's own `lawful` cites it.
use Rattle.std.specs.Prelude.{◌≡◌, ℕ, zero, suc, ◌+◌, ◌-◌, ◌*◌, ◌/◌, ◌%◌, ◌<◌, ◌≤◌, Bool, true, false, cond, ◌&&◌, ltb, List, [], ◌∷◌, ◌++◌, map, length, Some, None, Option, ◌≢◌, nat_lt, slice_index, refl}
use Rattle.std.proofs.Common.{sym, ap, subst, ◌∙◌, ⊎_elim, arith, add-zero, length-append}
use Rattle.std.proofs.Math.Nat.{sub_self, mul-lt-mul_of_pos_left}
use Rattle.std.proofs.lemmas.Bool.{lt-ltb, ltb-true, cases_lt, and_parts, and_from, cond-true}
use Rattle.std.specs.List.{range_with_len}
use Rattle.std.proofs.lemmas.List.FromFn.{length-map-range_with_len, get_or-map-range_with_len}
use Rattle.std.proofs.lemmas.List.{get_or_append_left, get_or-append_right}
use Rattle.std.proofs.lemmas.Nat.{mul-le, div-add-mod', div-mul-add, mod-mul-add, mul-add-lt, div_below, mod_below}
use Rattle.fabric.specs.Network.{Chain, Once, Lawful}
use Rattle.fabric.specs.Grid.{node, toward, grid_link, east, west, north, south, across, along, grid_path, grid_route, grid}

-- two chains one after the other, and chains of counted links
module _ (link : ℕ → Option (ℕ × ℕ)) where
  chain_append : (a m b : ℕ) (xs ys : List ℕ) → Chain link a xs m → Chain link m ys b → Chain link a (xs ++ ys) b
  chain_append a m b [] ys h k = subst (λ n. Chain link n ys b) (sym h) k
  chain_append a m b (x ∷ xs) ys (n, e, h) k = (n, e, chain_append n m b xs ys h k)

  -- a walk that is at node p i before its link f i
  chain_counted : (f p : ℕ → ℕ) (a k : ℕ) → ((i : ℕ) → a ≤ i → i < a + k → link (f i) ≡ Some (p i, p (i + 1))) → Chain link (p a) (map f (range_with_len a k)) (p (a + k))
  chain_counted f p a zero h = ap p (sym (add-zero a))
  chain_counted f p a (suc k) h =
      let e : (a + 1) + k ≡ a + suc k = omega arith in
      (p (a + 1), h a (omega arith) (omega arith), subst (λ n. Chain link (p (a + 1)) (map f (range_with_len (a + 1) k)) (p n)) e (chain_counted f p (a + 1) k (λ i lo hi. h i (omega arith) (omega arith))))

  -- the same from link 0, between named ends
  leg_chain : (f p : ℕ → ℕ) (k a b : ℕ) → ((i : ℕ) → i < k → link (f i) ≡ Some (p i, p (i + 1))) → p 0 ≡ a → p k ≡ b → Chain link a (map f (range_with_len 0 k)) b
  leg_chain f p k a b h s t =
      let z : 0 + k ≡ k = omega arith in
      let c : Chain link (p 0) (map f (range_with_len 0 k)) (p (0 + k)) = chain_counted f p 0 k (λ i lo hi. h i (omega arith)) in
      subst (λ m. Chain link m (map f (range_with_len 0 k)) b) s (subst (λ m. Chain link (p 0) (map f (range_with_len 0 k)) m) (ap p z ∙ t) c)

-- a link's number modulo 4 is its direction
turn : (n d : ℕ) → d < 4 → (4 * n + d) % 4 ≡ d
turn n d h = let e : 4 * n + d ≡ n * 4 + d = omega arith in ap (λ m. m % 4) e ∙ mod-mul-add n 4 d h

-- the number of the link in direction d from column x and row y gives its node and direction back
module _ (w h x y d : ℕ) (inx : x < w) (iny : y < h) (ind : d < 4) where
  below : 4 * node w x y + d < 4 * (w * h)
  below = omega (arith, mul-add-lt y w x h iny inx)

  quarter : (4 * node w x y + d) / 4 ≡ node w x y
  quarter = let e : 4 * node w x y + d ≡ node w x y * 4 + d = omega arith in ap (λ n. n / 4) e ∙ div-mul-add (node w x y) 4 d ind

  rest : (4 * node w x y + d) % 4 ≡ d
  rest = turn (node w x y) d ind

  swapped : node w x y ≡ y * w + x
  swapped = omega arith

  column_of : node w x y % w ≡ x
  column_of = ap (λ n. n % w) swapped ∙ mod-mul-add y w x inx

  row_of : node w x y / w ≡ y
  row_of = ap (λ n. n / w) swapped ∙ div-mul-add y w x inx

  link_at : grid_link w h (4 * node w x y + d) ≡ toward w h x y d
  link_at =
      let b : ltb (4 * node w x y + d) (4 * (w * h)) ≡ true = lt-ltb _ _ below in
      rw (b, quarter, rest, column_of, row_of)

-- a walk along row y, and one along column x: by the order of the ends one of its two ways is empty, and the other is a chain
module _ (w h : ℕ) where
  east_link : (x y : ℕ) → x + 1 < w → y < h → grid_link w h (4 * node w x y + 0) ≡ Some (node w x y, node w (x + 1) y)
  east_link x y inx iny = link_at w h x y 0 (omega arith) iny (omega arith) ∙ cond-true _ _ _ (lt-ltb _ _ inx)

  west_link : (x y : ℕ) → 0 < x → x < w → y < h → grid_link w h (4 * node w x y + 1) ≡ Some (node w x y, node w (x - 1) y)
  west_link x y pos inx iny = link_at w h x y 1 inx iny (omega arith) ∙ cond-true _ _ _ (lt-ltb _ _ pos)

  north_link : (x y : ℕ) → x < w → y + 1 < h → grid_link w h (4 * node w x y + 2) ≡ Some (node w x y, node w x (y + 1))
  north_link x y inx iny = link_at w h x y 2 inx (omega arith) (omega arith) ∙ cond-true _ _ _ (lt-ltb _ _ iny)

  south_link : (x y : ℕ) → x < w → 0 < y → y < h → grid_link w h (4 * node w x y + 3) ≡ Some (node w x y, node w x (y - 1))
  south_link x y inx pos iny = link_at w h x y 3 inx iny (omega arith) ∙ cond-true _ _ _ (lt-ltb _ _ pos)

  across_chain : (x y x' : ℕ) → x < w → y < h → x' < w → Chain (grid_link w h) (node w x y) (across w x y x') (node w x' y)
  across_chain x y x' inx iny inx' =
      let link = grid_link w h in
      let es = map (east w x y) (range_with_len 0 (x' - x)) in
      let ws = map (west w x y) (range_with_len 0 (x - x')) in
      ⊎_elim
      (λ lt. chain_append link (node w x y) (node w x' y) (node w x' y) es ws
      (leg_chain link (east w x y) (λ i. node w (x + i) y) (x' - x) (node w x y) (node w x' y)
      (λ i hi. let e : (x + i) + 1 ≡ x + (i + 1) = omega arith in east_link (x + i) y (omega arith) iny ∙ ap (λ n. Some (node w (x + i) y, node w n y)) e)
      (omega arith) (let e : x + (x' - x) ≡ x' = omega arith in ap (λ n. node w n y) e))
      (leg_chain link (west w x y) (λ i. node w x' y) (x - x') (node w x' y) (node w x' y) (λ i hi. absurd (omega arith)) refl refl))
      (λ le. chain_append link (node w x y) (node w x y) (node w x' y) es ws
      (leg_chain link (east w x y) (λ i. node w x y) (x' - x) (node w x y) (node w x y) (λ i hi. absurd (omega arith)) refl refl)
      (leg_chain link (west w x y) (λ i. node w (x - i) y) (x - x') (node w x y) (node w x' y)
      (λ i hi. let e : (x - i) - 1 ≡ x - (i + 1) = omega arith in west_link (x - i) y (omega arith) (omega arith) iny ∙ ap (λ n. Some (node w (x - i) y, node w n y)) e)
      (omega arith) (let e : x - (x - x') ≡ x' = omega arith in ap (λ n. node w n y) e)))
      (cases_lt x x')

  along_chain : (x y y' : ℕ) → x < w → y < h → y' < h → Chain (grid_link w h) (node w x y) (along w x y y') (node w x y')
  along_chain x y y' inx iny iny' =
      let link = grid_link w h in
      let ns = map (north w x y) (range_with_len 0 (y' - y)) in
      let ss = map (south w x y) (range_with_len 0 (y - y')) in
      ⊎_elim
      (λ lt. chain_append link (node w x y) (node w x y') (node w x y') ns ss
      (leg_chain link (north w x y) (λ i. node w x (y + i)) (y' - y) (node w x y) (node w x y')
      (λ i hi. let e : (y + i) + 1 ≡ y + (i + 1) = omega arith in north_link x (y + i) inx (omega arith) ∙ ap (λ n. Some (node w x (y + i), node w x n)) e)
      (let e : y + 0 ≡ y = omega arith in ap (λ n. node w x n) e) (let e : y + (y' - y) ≡ y' = omega arith in ap (λ n. node w x n) e))
      (leg_chain link (south w x y) (λ i. node w x y') (y - y') (node w x y') (node w x y') (λ i hi. absurd (omega arith)) refl refl))
      (λ le. chain_append link (node w x y) (node w x y) (node w x y') ns ss
      (leg_chain link (north w x y) (λ i. node w x y) (y' - y) (node w x y) (node w x y) (λ i hi. absurd (omega arith)) refl refl)
      (leg_chain link (south w x y) (λ i. node w x (y - i)) (y - y') (node w x y) (node w x y')
      (λ i hi. let e : (y - i) - 1 ≡ y - (i + 1) = omega arith in south_link x (y - i) inx (omega arith) (omega arith) ∙ ap (λ n. Some (node w x (y - i), node w x n)) e)
      (let e : y - 0 ≡ y = omega arith in ap (λ n. node w x n) e) (let e : y - (y - y') ≡ y' = omega arith in ap (λ n. node w x n) e)))
      (cases_lt y y')

  -- both walks one after the other
  path_chain : (x y x' y' : ℕ) → x < w → y < h → x' < w → y' < h → Chain (grid_link w h) (node w x y) (grid_path w x y x' y') (node w x' y')
  path_chain x y x' y' inx iny inx' iny' = chain_append (grid_link w h) (node w x y) (node w x' y) (node w x' y') (across w x y x') (along w x' y y') (across_chain x y x' inx iny inx') (along_chain x' y y' inx' iny iny')

-- how long the two walks and the path are
pub across_length : (w x y x' : ℕ) → length (across w x y x') ≡ (x' - x) + (x - x')
across_length w x y x' = simp (length-append, length-map-range_with_len)

pub along_length : (w x y y' : ℕ) → length (along w x y y') ≡ (y' - y) + (y - y')
along_length w x y y' = simp (length-append, length-map-range_with_len)

pub path_length : (w x y x' y' : ℕ) → length (grid_path w x y x' y') ≡ ((x' - x) + (x - x')) + ((y' - y) + (y - y'))
path_length w x y x' y' = simp (length-append, length-map-range_with_len)

-- no link stands twice in two lists that have none twice and none in common
once_append : (xs ys : List ℕ) → Once xs → Once ys → ((i j : ℕ) → i < length xs → j < length ys → slice_index xs i ≢ slice_index ys j) → Once (xs ++ ys)
once_append xs ys onex oney apart i j lt within same =
    let all : length (xs ++ ys) ≡ length xs + length ys = length-append xs ys in
    ⊎_elim
    (λ jx. onex i j lt jx (sym (get_or_append_left xs ys 0 i (omega arith)) ∙ same ∙ get_or_append_left xs ys 0 j jx))
    (λ jy. ⊎_elim
    (λ ix. apart i (j - length xs) ix (omega arith) (sym (get_or_append_left xs ys 0 i ix) ∙ same ∙ get_or-append_right xs ys (length xs) j 0 refl jy))
    (λ iy. oney (i - length xs) (j - length xs) (omega arith) (omega arith) (sym (get_or-append_right xs ys (length xs) i 0 refl iy) ∙ same ∙ get_or-append_right xs ys (length xs) j 0 refl jy))
    (cases_lt i (length xs)))
    (cases_lt j (length xs))

-- nor in counted links that differ
once_counted : (f : ℕ → ℕ) (k : ℕ) → ((i j : ℕ) → i < j → j < k → f i ≢ f j) → Once (map f (range_with_len 0 k))
once_counted f k apart i j lt within same =
    let long : length (map f (range_with_len 0 k)) ≡ k = length-map-range_with_len f 0 k in
    apart i j lt (omega arith) (sym (get_or-map-range_with_len f 0 k i i 0 (omega arith) (omega arith)) ∙ same ∙ get_or-map-range_with_len f 0 k j j 0 (omega arith) (omega arith))

-- each link has P
abbrev Each : (ℕ → Type 0) → List ℕ → Type 0
Each P xs = (i : ℕ) → i < length xs → P (slice_index xs i)

each_append : (P : ℕ → Type 0) (xs ys : List ℕ) → Each P xs → Each P ys → Each P (xs ++ ys)
each_append P xs ys px py i within =
    let all : length (xs ++ ys) ≡ length xs + length ys = length-append xs ys in
    ⊎_elim
    (λ ix. subst P (sym (get_or_append_left xs ys 0 i ix)) (px i ix))
    (λ iy. subst P (sym (get_or-append_right xs ys (length xs) i 0 refl iy)) (py (i - length xs) (omega arith)))
    (cases_lt i (length xs))

each_counted : (P : ℕ → Type 0) (f : ℕ → ℕ) (k : ℕ) → ((i : ℕ) → P (f i)) → Each P (map f (range_with_len 0 k))
each_counted P f k h i within =
    let long : length (map f (range_with_len 0 k)) ≡ k = length-map-range_with_len f 0 k in
    subst P (sym (get_or-map-range_with_len f 0 k i i 0 (omega arith) (omega arith))) (h i)

module _ (w : ℕ) where
  -- the direction of a link is below 2 along x, and from 2 on along y
  pub across_turns : (x y x' : ℕ) → Each (λ l. l % 4 < 2) (across w x y x')
  across_turns x y x' = each_append (λ l. l % 4 < 2) _ _
      (each_counted (λ l. l % 4 < 2) (east w x y) (x' - x) (λ i. omega (arith, turn (node w (x + i) y) 0 (omega arith))))
      (each_counted (λ l. l % 4 < 2) (west w x y) (x - x') (λ i. omega (arith, turn (node w (x - i) y) 1 (omega arith))))

  pub along_turns : (x y y' : ℕ) → Each (λ l. 2 ≤ l % 4) (along w x y y')
  along_turns x y y' = each_append (λ l. 2 ≤ l % 4) _ _
      (each_counted (λ l. 2 ≤ l % 4) (north w x y) (y' - y) (λ i. omega (arith, turn (node w x (y + i)) 2 (omega arith))))
      (each_counted (λ l. 2 ≤ l % 4) (south w x y) (y - y') (λ i. omega (arith, turn (node w x (y - i)) 3 (omega arith))))

  -- of two ways in opposite directions one has no link, and along one way the nodes differ
  across_once : (x y x' : ℕ) → Once (across w x y x')
  across_once x y x' = once_append _ _
      (once_counted (east w x y) (x' - x) (λ i j lt hi same. omega arith))
      (once_counted (west w x y) (x - x') (λ i j lt hi same. omega arith))
      (λ i j hi hj same. omega (arith, length-map-range_with_len (east w x y) 0 (x' - x), length-map-range_with_len (west w x y) 0 (x - x')))

  along_once : (x y y' : ℕ) → 0 < w → Once (along w x y y')
  along_once x y y' pos = once_append _ _
      (once_counted (north w x y) (y' - y) (λ i j lt hi same. let l : y + i < y + j = omega arith in omega (arith, mul-lt-mul_of_pos_left l pos)))
      (once_counted (south w x y) (y - y') (λ i j lt hi same. let l : y - j < y - i = omega arith in omega (arith, mul-lt-mul_of_pos_left l pos)))
      (λ i j hi hj same. omega (arith, length-map-range_with_len (north w x y) 0 (y' - y), length-map-range_with_len (south w x y) 0 (y - y')))

  -- the two walks have no link in common, since their directions differ
  path_once : (x y x' y' : ℕ) → 0 < w → Once (grid_path w x y x' y')
  path_once x y x' y' pos = once_append (across w x y x') (along w x' y y') (across_once x y x') (along_once x' y y' pos)
      (λ i j hi hj same. omega (arith, across_turns x y x' i hi, along_turns x' y y' j hj, ap (λ l. l % 4) same))

-- what a test that came out true says of the answer behind it
some_parts : {X : Type 0} (t : Bool) (u v : X) → cond t (Some u) None ≡ Some v → (t ≡ true) × (u ≡ v)
some_parts true u v e = (refl, cc)
some_parts false u v e = cc

-- two different nodes below n
abbrev Apart : ℕ → ℕ → ℕ → Type 0
Apart n a b = (a < n) × (b < n) × (a ≢ b)

module _ (w h : ℕ) where
  node_below : (x y : ℕ) → x < w → y < h → node w x y < w * h
  node_below x y inx iny = omega (arith, mul-add-lt y w x h iny inx)

  -- a link's two nodes are different nodes of the mesh
  toward_apart : (x y d a b : ℕ) → x < w → y < h → toward w h x y d ≡ Some (a, b) → Apart (w * h) a b
  toward_apart x y zero a b inx iny is =
      let s = some_parts (nat_lt (x + 1) w) (node w x y, node w (x + 1) y) (a, b) is in
      let p : node w x y ≡ a = ap (λ q. q.0) s.1 in
      let q : node w (x + 1) y ≡ b = ap (λ q. q.1) s.1 in
      let t = ltb-true _ _ s.0 in
      (omega (arith, node_below x y inx iny), omega (arith, node_below (x + 1) y t iny), λ e. omega arith)
  toward_apart x y (suc zero) a b inx iny is =
      let s = some_parts (nat_lt 0 x) (node w x y, node w (x - 1) y) (a, b) is in
      let p : node w x y ≡ a = ap (λ q. q.0) s.1 in
      let q : node w (x - 1) y ≡ b = ap (λ q. q.1) s.1 in
      let t = ltb-true _ _ s.0 in
      (omega (arith, node_below x y inx iny), omega (arith, node_below (x - 1) y (omega arith) iny), λ e. omega arith)
  toward_apart x y (suc (suc zero)) a b inx iny is =
      let s = some_parts (nat_lt (y + 1) h) (node w x y, node w x (y + 1)) (a, b) is in
      let p : node w x y ≡ a = ap (λ q. q.0) s.1 in
      let q : node w x (y + 1) ≡ b = ap (λ q. q.1) s.1 in
      let t = ltb-true _ _ s.0 in
      let l : y < y + 1 = omega arith in
      let r : 0 < w = omega arith in
      (omega (arith, node_below x y inx iny), omega (arith, node_below x (y + 1) inx t), λ e. omega (arith, mul-lt-mul_of_pos_left l r))
  toward_apart x y (suc (suc (suc d))) a b inx iny is =
      let s = some_parts (nat_lt 0 y) (node w x y, node w x (y - 1)) (a, b) is in
      let p : node w x y ≡ a = ap (λ q. q.0) s.1 in
      let q : node w x (y - 1) ≡ b = ap (λ q. q.1) s.1 in
      let t = ltb-true _ _ s.0 in
      let l : y - 1 < y = omega arith in
      let r : 0 < w = omega arith in
      (omega (arith, node_below x y inx iny), omega (arith, node_below x (y - 1) inx (omega arith)), λ e. omega (arith, mul-lt-mul_of_pos_left l r))

-- the same where what stands behind the test is itself an answer
guarded : {X : Type 0} (t : Bool) (o : Option X) (v : X) → cond t o None ≡ Some v → (t ≡ true) × (o ≡ Some v)
guarded true o v e = (refl, e)
guarded false o v e = cc

module _ (w h d : ℕ) (posw : 1 ≤ w) (few : w ≤ 8) (posh : 1 ≤ h) (low : h ≤ 8) (slow : d ≤ 64) where
  -- a route that is answered is the path between two nodes of the mesh
  inside_route : (a b : ℕ) (r : List ℕ) → grid_route w h a b ≡ Some r → (a < w * h) × (b < w * h) × (grid_path w (a % w) (a / w) (b % w) (b / w) ≡ r)
  inside_route a b r is =
      let s = some_parts (nat_lt a (w * h) && nat_lt b (w * h)) (grid_path w (a % w) (a / w) (b % w) (b / w)) r is in
      let t = and_parts (nat_lt a (w * h)) (nat_lt b (w * h)) s.0 in
      (ltb-true _ _ t.0, ltb-true _ _ t.1, s.1)

  row_below : (a : ℕ) → a < w * h → a / w < h
  row_below a lt = div_below a w h (omega arith) (omega arith)

  -- a node's column and row give it back
  back : (a : ℕ) → node w (a % w) (a / w) ≡ a
  back a = omega (arith, div-add-mod' a w)

  -- the laws and limits of a mesh
  pub mesh_lawful : Lawful 14 (grid w h d)
  mesh_lawful = record {
    some_node = omega (arith, mul-le 1 1 w h posw posh);
    few_nodes = omega (arith, mul-le w h 8 8 few low);
    few_links = omega (arith, mul-le w h 8 8 few low);
    low_delay = slow;
    ends = λ l a b is.
        let s = guarded (nat_lt l (4 * (w * h))) (toward w h (l / 4 % w) (l / 4 / w) (l % 4)) (a, b) is in
        let lt = ltb-true l (4 * (w * h)) s.0 in
        let n = div_below l 4 (w * h) (omega arith) (omega arith) in
        let t = toward_apart w h (l / 4 % w) (l / 4 / w) (l % 4) a b (mod_below (l / 4) w (omega arith)) (row_below (l / 4) n) s.1 in
        (lt, t.0, t.1, t.2);
    inside = λ a b r is. let s = inside_route a b r is in (s.0, s.1);
    chain = λ a b r is.
        let s = inside_route a b r is in
        let c = path_chain w h (a % w) (a / w) (b % w) (b / w) (mod_below a w (omega arith)) (row_below a s.0) (mod_below b w (omega arith)) (row_below b s.1) in
        subst (λ p. Chain (grid_link w h) a p b) s.2
        (subst (λ n. Chain (grid_link w h) n (grid_path w (a % w) (a / w) (b % w) (b / w)) b) (back a)
        (subst (λ n. Chain (grid_link w h) (node w (a % w) (a / w)) (grid_path w (a % w) (a / w) (b % w) (b / w)) n) (back b) c));
    once = λ a b r is.
        let s = inside_route a b r is in
        subst Once s.2 (path_once w (a % w) (a / w) (b % w) (b / w) (omega arith));
    short = λ a b r is.
        let s = inside_route a b r is in
        omega (arith, ap length s.2, path_length w (a % w) (a / w) (b % w) (b / w), mod_below a w (omega arith), mod_below b w (omega arith), row_below a s.0, row_below b s.1);
    stay = λ a lt.
        let t : (nat_lt a (w * h) && nat_lt a (w * h)) ≡ true = and_from _ _ (lt-ltb _ _ lt) (lt-ltb _ _ lt) in
        cond-true _ _ _ t ∙ simp sub_self;
  }
