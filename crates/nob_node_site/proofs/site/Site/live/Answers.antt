use Rattle.nob_node_site.proofs.site.Site.live.Goals as goal

pub returns : goal.returns
returns g c = (c.args.self.now.keeper.identity, c.live.ensures)
