use Rattle.std.proofs.Common.{◌≡◌, ℕ, Option, Some, sym, ap, refl, arith, ◌∙◌}
use lib.ListN.{set}
use Rattle.slab.proofs.SlabLemmas.{Updates-with_value}
use Rattle.nob_slots.specs.Slots.{SlotList, item_at}
use Rattle.nob_queues.specs.Queues.{queue_or_none}
use Rattle.nob_queues.proofs.Lent.{lent_is}
use Rattle.nob_queues.proofs.Keyed.{item_or}
use Rattle.nob_queues.proofs.Seen.{item_seen, length_seen_all, stands_unseen}
use Rattle.nob_queues.proofs.Writes.{in_range}
use Rattle.nob_queues.proofs.queues.Queues.get_mut.Goals as goal

pub key_of-key-requires-clause-there : goal.key_of-key-requires-clause-there
key_of-key-requires-clause-there g c =
    stands_unseen c.self.inside.items.slots c.self.inside.queues c.self.invariant.0 c.args.queue c.args.number (rw (← c.self.view_is) at c.requires.there)

pub returns : goal.returns
returns g c =
    let queues = c.self.inside.queues in
    let slots = c.self.inside.items.slots in
    let kept = c.self.invariant.0 in
    let three = c.key_of-key.ensures.count in
    let old = in_range queues c.args.queue (omega (arith, three, c.requires.queue)) in
    let found : item_at old.0.rows c.args.number ≡ Some c.key_of-key.result = ap (λ (o : Option (SlotList ℕ)). item_at (queue_or_none o).rows c.args.number) (sym old.1) ∙ c.key_of-key.ensures.key in
    let there = kept.there c.args.queue c.args.number c.key_of-key.result c.key_of-key.ensures.key in (
      (
        refl,
        λ w.
            let writes = Updates-with_value c.self.inside.items c.key_of-key.result w there in
            rw (← c.self.view_is) (lent_is slots (set slots c.key_of-key.result (Some w)) queues kept c.self.inside.room c.args.queue old.0 old.1 c.args.number c.key_of-key.result found w writes.changed writes.others),
      ),
      record {
        writes_back = tt;
        value = rw (← c.self.view_is) (item_seen slots queues c.args.queue old.0 old.1 kept c.args.number ∙ ap (item_or slots) found ∙ c.index_mut.ensures.value);
        count = rw (← c.self.view_is) (length_seen_all slots queues ∙ three);
      },
    )
