use Rattle.std.proofs.Common.{ℕ, ◌<◌, ◌≡◌, ℤ, ◌≤ℤ◌, List, Option, Some, None, IfSome, IfNone, MatchOption, sym, subst, arith, refl, length, set}
use Rattle.std.proofs.lemmas.List.{get_or_read, get_or-set_same}
use Rattle.fq_model.specs.declared.config.Policy.{Policy}
use Rattle.fq_model.specs.Keys.{HeadKeys, Turn, IsChoice}
use Rattle.tag_rules.specs.Tables.{Table, Has, NoneHas, RequestsDiffer, IsTableChoice}
use Rattle.tag_rules.proofs.Comparing.{read}
use Rattle.eligible_index.specs.Trees.{TreesView, Follow, AreExact, IsFirstIn, HaveNoKey}
use Rattle.eligible_index.specs.Index.{IndexView, trees_of}
use Rattle.eligible_index.proofs.Kept.{keeps_chosen, follow_now}
use Rattle.eligible_index.proofs.Choices.{first_is_choice, no_key_no_head}
use Rattle.eligible_index.proofs.index.IndexChooserChooser.choose.Goals as goal

in_pool : (x y : IndexView) (i : ℕ) → x ≡ y → i < y.chooser.setting.workers → i < x.chooser.setting.workers
in_pool x y i e lt = subst (λ (z : IndexView). i < z.chooser.setting.workers) (sym e) lt

not_back : (x y : IndexView) (v : ℤ) → x ≡ y → y.chooser.latest ≤ℤ v → x.chooser.latest ≤ℤ v
not_back x y v e le = subst (λ (z : IndexView). z.chooser.latest ≤ℤ v) (sym e) le

if_some : (at : Turn) (table : Table) → RequestsDiffer table → (w : TreesView) → AreExact at table w.later w.eligible → (r : Option ℕ) → MatchOption r (HaveNoKey w) (IsFirstIn w) → IfSome r (λ t. (k : HeadKeys) × IsChoice at (Has table) t k)
if_some at table differ w exact None m = tt
if_some at table differ w exact (Some t) m = first_is_choice at table differ w exact t m

if_none : (at : Turn) (table : Table) → RequestsDiffer table → (w : TreesView) → AreExact at table w.later w.eligible → (r : Option ℕ) → MatchOption r (HaveNoKey w) (IsFirstIn w) → IfNone r (NoneHas table)
if_none at table differ w exact None m = no_key_no_head at table differ w exact m
if_none at table differ w exact (Some t) m = tt

pub index_mut-trees-requires : goal.index_mut-trees-requires
index_mut-trees-requires c = omega (arith, in_pool _ _ c.args.worker c.self.view_is c.requires.worker, c.self.invariant.staffed, c.self.inside.trees.ok.0)

pub invariant_of-turn : goal.invariant_of-turn
invariant_of-turn c = in_pool _ _ c.args.worker c.self.view_is c.requires.worker

-- `Follow` at the virtual time, the table and the trees that were read
follow_at : (policy : Policy) (workers i : ℕ) (z v : ℤ) (read_table table : Table) (read_trees w : TreesView) → z ≡ v → read_table ≡ table → read_trees ≡ w → Follow (record { policy = policy; workers = workers; worker = i; virtual_time = v }) table w → Follow (record { policy = policy; workers = workers; worker = i; virtual_time = z }) read_table read_trees
follow_at policy workers i z v read_table table read_trees w e f g h = rw (e, f, g) h

exact_at : (policy : Policy) (workers i : ℕ) (z v : ℤ) (read_table table : Table) (w : TreesView) → z ≡ v → read_table ≡ table → AreExact (record { policy = policy; workers = workers; worker = i; virtual_time = z }) read_table w.later w.eligible → AreExact (record { policy = policy; workers = workers; worker = i; virtual_time = v }) table w.later w.eligible
exact_at policy workers i z v read_table table w e f h = subst (λ t. AreExact (record { policy = policy; workers = workers; worker = i; virtual_time = v }) t w.later w.eligible) f (subst (λ y. AreExact (record { policy = policy; workers = workers; worker = i; virtual_time = y }) read_table w.later w.eligible) e h)

exact_in : (at : Turn) (table : Table) (trees : List TreesView) (i : ℕ) (w : TreesView) → i < length trees → AreExact at table w.later w.eligible → AreExact at table (trees_of (set trees i w) i).later (trees_of (set trees i w) i).eligible
exact_in at table trees i w lt h = subst (λ (x : TreesView). AreExact at table x.later x.eligible) (sym (get_or-set_same trees i w _ lt)) h

pub catch_up-requires : goal.catch_up-requires
catch_up-requires c =
    let chosen = in_pool _ _ c.args.worker c.self.view_is c.requires.worker in
    follow_at c.self.inside.policy c.self.inside.workers c.args.worker _ c.args.v c.deref.result.now c.self.inside.table.items c.index_mut-trees.result.now (trees_of c.self.inside.trees.items c.args.worker) (read c.args.v c.args.v c.ranges.v.sfits refl) c.deref.ensures.value (get_or_read c.self.inside.trees.items c.args.worker c.index_mut-trees.result.now (omega (arith, chosen, c.self.invariant.staffed)) c.index_mut-trees.ensures.value _) (follow_now c.self.inside.policy c.self.inside.workers c.self.inside.table.items c.self.inside.latest c.args.v c.self.inside.trees.items c.args.worker c.self.invariant chosen (not_back _ _ c.args.v c.self.view_is c.requires.not_back))

pub invariant_of-self : goal.invariant_of-self
invariant_of-self c =
    let e = read c.args.v c.args.v c.ranges.v.sfits refl in
    keeps_chosen c.self.inside.policy c.self.inside.workers c.self.inside.table.items c.self.inside.latest _ c.self.inside.trees.items c.args.worker c.catch_up.new.self c.self.invariant (in_pool _ _ c.args.worker c.self.view_is c.requires.worker) (subst (λ z. c.self.inside.latest ≤ℤ z) (sym e) (not_back _ _ c.args.v c.self.view_is c.requires.not_back)) (follow_at c.self.inside.policy c.self.inside.workers c.args.worker _ _ c.self.inside.table.items c.deref.result.now c.catch_up.new.self c.catch_up.new.self refl (sym c.deref.ensures.value) refl c.catch_up.ensures.follow)

pub returns-clause-chosen : goal.returns-clause-chosen
returns-clause-chosen c = subst (λ (x : IndexView). IfSome c.first.result (IsTableChoice x.chooser.setting x.chooser.table c.args.worker c.args.v)) c.self.view_is (if_some _ c.self.inside.table.items c.self.invariant.differ c.catch_up.new.self (exact_at c.self.inside.policy c.self.inside.workers c.args.worker _ c.args.v _ c.self.inside.table.items c.catch_up.new.self (read c.args.v c.args.v c.ranges.v.sfits refl) c.deref.ensures.value c.catch_up.ensures.exact) c.first.result c.first.ensures)

pub returns-clause-none : goal.returns-clause-none
returns-clause-none c = subst (λ (x : IndexView). IfNone c.first.result (NoneHas x.chooser.table)) c.self.view_is (if_none _ c.self.inside.table.items c.self.invariant.differ c.catch_up.new.self (exact_at c.self.inside.policy c.self.inside.workers c.args.worker _ c.args.v _ c.self.inside.table.items c.catch_up.new.self (read c.args.v c.args.v c.ranges.v.sfits refl) c.deref.ensures.value c.catch_up.ensures.exact) c.first.result c.first.ensures)

pub returns-clause-exact : goal.returns-clause-exact
returns-clause-exact c = exact_in _ c.self.inside.table.items c.self.inside.trees.items c.args.worker c.catch_up.new.self (omega (arith, in_pool _ _ c.args.worker c.self.view_is c.requires.worker, c.self.invariant.staffed)) (exact_at c.self.inside.policy c.self.inside.workers c.args.worker _ c.args.v _ c.self.inside.table.items c.catch_up.new.self (read c.args.v c.args.v c.ranges.v.sfits refl) c.deref.ensures.value c.catch_up.ensures.exact)
