-- Items that a feed appends to a list wait after those that wait already, once the first ones were taken.
use Rattle.std.proofs.Common.{ℕ, ◌≡◌, ◌∙◌, ◌≤◌, ap, sym, subst, List, length, drop}
use Rattle.std.proofs.lemmas.List.{drop-append-le}
use Rattle.key_class.specs.Rules.{Rules}
use Rattle.change_list.specs.declared.item.Item.{Item}
use Rattle.change_list.specs.declared.write.Write.{Write}
use Rattle.feed.specs.Feeds.{FeedState, AdvancesInto}
use Rattle.revisions.specs.declared.item.MapItem.{MapItem}
use Rattle.revisions.specs.Maps.{MapState}
use Rattle.map.specs.MapFeeds as maps

pub waits_after : {K A : Type 0} (rules : Rules K A) (old new : FeedState A) (commits : List (Write K)) (most taken : ℕ) (before after : List (ℕ × Item K)) → taken ≤ length before → AdvancesInto rules old commits most before after new → AdvancesInto rules old commits most (drop taken before) (drop taken after) new
waits_after rules old new commits most taken before after within into = record {
  given = into.given;
  is = ap (drop taken) into.is ∙ drop-append-le taken before into.given within;
  advances = into.advances;
}

pub map_waits_after : {K A : Type 0} (rules : Rules K A) (old new : maps.MapFeedState A) (kept : MapState K) (most taken upto : ℕ) (before after : List (ℕ × MapItem K)) → taken ≤ length before
    → maps.AdvancesInto rules old kept most before after new upto → maps.AdvancesInto rules old kept most (drop taken before) (drop taken after) new new.feed.upto
map_waits_after rules old new kept most taken upto before after within into =
    let reached : new.feed.upto ≡ upto = ap (λ f. f.feed.upto) into.goes_on in
    subst (λ n. maps.AdvancesInto rules old kept most (drop taken before) (drop taken after) new n) (sym reached) (record {
      tells = record {
        told = into.tells.told;
        is = ap (drop taken) into.tells.is ∙ drop-append-le taken before into.tells.told within;
        tells = into.tells.tells;
      };
      goes_on = into.goes_on;
    })
