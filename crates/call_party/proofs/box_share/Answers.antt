use Rattle.call_party.proofs.Laws.{share_camera, share_office}
use Rattle.call_party.proofs.box_share.Goals as goal

pub returns-then-party-eq-CAMERA : goal.returns-then-party-eq-CAMERA
returns-then-party-eq-CAMERA c = share_camera _ _ _ _ _ _ _ _ c.if-party-eq-CAMERA.true c.share_of.ensures

pub returns : goal.returns
returns c = share_office _ _ _ _ _ _ _ _ c.if-party-eq-CAMERA.false c.share_of-2.ensures
